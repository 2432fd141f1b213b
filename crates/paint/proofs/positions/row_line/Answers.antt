-- `positions::row_line` meets its contract.
use Rattle.std.proofs.Common.{◌≡◌, ◌∙◌, ap₂, arith, w64, to_z, of_z}
use Rattle.fixed.proofs.Signed.{back}
use Rattle.paint.specs.Gradient.{squared_length}
use Rattle.paint.specs.Buffers.{Lined, quotient_at, row_step, in_parts}
use Rattle.paint.proofs.Along.{parts_small, at_proper, step_proper, line_same}
use borrow.Author.Tests.{not-false}
use Rattle.paint.proofs.positions.row_line.Goals as goal

-- what the local holds
length-is : (c : goal.After-quotient_at-q) → to_z w64 (of_z w64 c.squared_length-d.result) ≡ squared_length c.args.g.points
length-is c =
    let d = c.squared_length-d in
    back w64 d.result d.type_inv ∙ d.ensures

-- ---- a line serves
lined : (c : goal.Else-not-has_line)
    → let a = c.args in
    let p = a.g.points in Lined a.g.spread (quotient_at p a.x a.y) (row_step p) (squared_length p) a.n
lined c =
    rw (c.quotient_at-q.ensures, c.row_step-step.ensures, length-is c.before.before) at (c.has_line.ensures (not-false _ c.if-not-has_line.false-raw))

first-is : (c : goal.After-in_parts)
    → let a = c.args in
    to_z w64 (of_z w64 c.in_parts.result) ≡ in_parts (quotient_at a.g.points a.x a.y) (squared_length a.g.points)
first-is c =
    back w64 c.in_parts.result c.in_parts.type_inv ∙ c.in_parts.ensures ∙ ap₂ in_parts c.quotient_at-q.ensures (length-is c.before.before.before)

step_is : (c : goal.After-in_parts-2)
    → let a = c.args in
    to_z w64 (of_z w64 c.in_parts-2.result) ≡ in_parts (row_step a.g.points) (squared_length a.g.points)
step_is c =
    back w64 c.in_parts-2.result c.in_parts-2.type_inv ∙ c.in_parts-2.ensures
    ∙ ap₂ in_parts c.row_step-step.ensures (length-is c.before.before.before.before)

pub squared_length-d-requires : goal.squared_length-d-requires
squared_length-d-requires c =
    c.requires.limited_points.0

pub row_step-step-requires : goal.row_step-step-requires
row_step-step-requires c =
    c.requires.limited_points

pub quotient_at-q-requires : goal.quotient_at-q-requires
quotient_at-q-requires c =
    record { limited_points = c.requires.limited_points; x_bound = (c.requires.x_bound.0, c.requires.x_bound.1) }

pub has_line-requires : goal.has_line-requires
has_line-requires c =
    c.requires.x_bound.2

pub in_parts-requires : goal.in_parts-requires
in_parts-requires c =
    let a = c.args in
    rw (c.quotient_at-q.ensures, length-is c.before.before) (at_proper a.g.points c.requires.limited_points.1 a.x a.y, (lined c).length, (lined c).whole)

pub in_parts-requires-2 : goal.in_parts-requires-2
in_parts-requires-2 c =
    rw (c.row_step-step.ensures, length-is c.before.before.before)
    (step_proper c.args.g.points c.requires.limited_points.1, (lined c.before).length, omega (arith, (lined c.before).growth))

pub returns : goal.returns
returns c =
    let a = c.args in
    let p = a.g.points in
    let apart = c.requires.limited_points.1 in
    rw (first-is c.before, step_is c)
    (record {
      small = parts_small (quotient_at p a.x a.y) (squared_length p) (at_proper p apart a.x a.y) 131072 (lined c.before.before).whole;
      slow = parts_small (row_step p) (squared_length p) (step_proper p apart) 1024 (lined c.before.before).growth;
      same = λ i h. line_same p apart a.g.spread a.x a.y i (lined c.before.before).pads ((lined c.before.before).near i h);
    })
