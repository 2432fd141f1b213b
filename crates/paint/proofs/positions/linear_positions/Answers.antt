-- `positions::linear_positions` meets its contract: by a line where one serves, and by quotients where none does.
use Rattle.std.proofs.Common.{◌≡◌, ◌+◌, length, ℤ, pos, ◌+ℤ◌, ◌*ℤ◌, ◌∙◌, ap₂, arith, w64, to_z, of_z}
use Rattle.lists.specs.Lists.{tab}
use Rattle.fixed.specs.Floor.{floor_div}
use Rattle.fixed.proofs.Signed.{back, clean}
use Rattle.paint.specs.Gradient.{squared_length, linear_t, mapped}
use Rattle.paint.specs.Buffers.{line_parts}
use Rattle.paint.specs.Segments.{position_of}
use Rattle.paint.proofs.Along.{positions_same}
use Rattle.paint.proofs.positions.linear_positions.Goals as goal

-- ---- none does
length-is : (c : goal.After-along_quotients-arg-1)
    → to_z w64 (of_z w64 c.squared_length-d.result) ≡ squared_length c.args.g.points
length-is c =
    let d = c.squared_length-d in
    back w64 d.result d.type_inv ∙ d.ensures

-- ---- a line serves
pub along_line-requires : goal.along_line-requires
along_line-requires c =
    let f = rw c.in-Some.is at c.requires.follows in
    rw (clean w64 2305843009213693952 _ tt f.small, clean w64 18014398509481984 _ tt f.slow) (f.small, f.slow, c.requires.ks_bound.2)

pub returns-in-Some : goal.returns-in-Some
returns-in-Some c =
    let f = rw c.in-Some.is at c.requires.follows in
    let a = c.args in
    let l = c.in-Some.l in
    let n = length a.ks.now in
    c.along_line.ensures
    ∙ ap₂ (λ (first step : ℤ). tab n (λ i. position_of (floor_div (first +ℤ step *ℤ pos i) line_parts)))
    (clean w64 2305843009213693952 l.first tt f.small) (clean w64 18014398509481984 l.step tt f.slow)
    ∙ positions_same n (λ i. floor_div (l.first +ℤ l.step *ℤ pos i) line_parts)
    (λ i. mapped a.g.spread (linear_t a.g.points (a.x + i) a.y)) (λ i h. f.same i h)

pub squared_length-d-requires : goal.squared_length-d-requires
squared_length-d-requires c =
    c.requires.limited_points.0

pub row_step-step-requires : goal.row_step-step-requires
row_step-step-requires c =
    c.requires.limited_points

pub quotient_at-q-requires : goal.quotient_at-q-requires
quotient_at-q-requires c =
    record { limited_points = c.requires.limited_points; x_bound = (omega (arith, c.requires.ks_bound.0), c.requires.ks_bound.1) }

pub along_quotients-requires : goal.along_quotients-requires
along_quotients-requires c =
    record {
      limited_points = c.requires.limited_points;
      ks_bound = (c.requires.ks_bound.0, c.requires.ks_bound.1);
      first_value = (
        c.quotient_at-q.ensures,
        c.row_step-step.ensures,
        length-is c,
      );
    }

pub returns : goal.returns
returns c =
    c.along_quotients.ensures
