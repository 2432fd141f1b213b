-- `chord::inner_columns` meets its contract: whatever is asked of the ends, all columns are right.
use Rattle.std.proofs.Common.{◌+◌, ◌≤◌, ap, ◌∙◌, arith, w64}
use Rattle.fixed.proofs.Signed.{back, clean}
use Rattle.paint.specs.Radial.{from_focus}
use Rattle.paint.proofs.Outer.{enclosing_ramp, all_within}
use Rattle.paint.proofs.chord.inner_columns.Goals as goal

-- both ends lie in the part
ends : (c : goal.Else-n-lt-FEW) → let a = c.args in (32 ≤ a.n) × (a.x + a.n ≤ 1024) × (a.y ≤ 1024)
ends c = (omega (arith, c.if-n-lt-FEW.false), c.requires.n_bound.0, c.requires.n_bound.1)

pub returns-then-n-lt-FEW : goal.returns-then-n-lt-FEW
returns-then-n-lt-FEW c =
    let a = c.args in all_within a.c a.x a.y a.n

pub overflow_add-x : goal.overflow_add-x
overflow_add-x c =
    let h = ends c in record { fits = omega (arith, h) }

pub is_inside-requires : goal.is_inside-requires
is_inside-requires c =
    let h = ends c in (c.requires.limited_circle.0, omega (arith, h), h.2)

pub overflow_add-x-then-is_inside : goal.overflow_add-x-then-is_inside
overflow_add-x-then-is_inside c =
    let h = ends c.before.before in record { fits = omega (arith, h) }

pub overflow_sub-x : goal.overflow_sub-x
overflow_sub-x c =
    let h = ends c.before.before in omega (arith, h)

pub overflow_sub-x-then-is_inside : goal.overflow_sub-x-then-is_inside
overflow_sub-x-then-is_inside c =
    let h = ends c.before.before in omega (arith, h)

pub is_inside-requires-then-is_inside : goal.is_inside-requires-then-is_inside
is_inside-requires-then-is_inside c =
    let h = ends c.before.before in (c.requires.limited_circle.0, omega (arith, h), h.2)

pub returns-then-is_inside-2 : goal.returns-then-is_inside-2
returns-then-is_inside-2 c =
    let a = c.args in all_within a.c a.x a.y a.n

pub chord-requires : goal.chord-requires
chord-requires c =
    let up = c.from_focus-2 in
    let across = c.from_focus in
    let r = clean w64 16384 c.args.c.r tt c.requires.limited_circle.0.r in (
      rw r c.requires.limited_circle.0.r,
      rw (back w64 across.result across.type_inv) across.ensures.1,
      rw (back w64 up.result up.type_inv) up.ensures.1,
      rw r c.requires.limited_circle.2,
    )

pub returns : goal.returns
returns c =
    let up = c.from_focus-2 in
    let across = c.from_focus in
    let a = c.args in
    let near = c.requires.limited_circle.0 in
    let ex = back w64 across.result across.type_inv ∙ across.ensures.0 ∙ ap (from_focus a.x) (clean w64 16384 a.c.cx tt near.cx) in
    let ey = back w64 up.result up.type_inv ∙ up.ensures.0 ∙ ap (from_focus a.y) (clean w64 16384 a.c.cy tt near.cy) in
    let r = clean w64 16384 a.c.r tt near.r in
    enclosing_ramp a.c near c.requires.limited_circle.1 c.requires.limited_circle.2 a.x a.y a.n c.chord.result (rw (r, ex, ey) at c.chord.ensures)
