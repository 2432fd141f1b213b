-- `path::tracing::line_pen` meets its contract: each command's law of Traces. Assumes nothing.
use mathlib.Core.Path.{◌≡◌, refl, sym, ap, subst, ◌∙◌}
use Prim.Native.Nat.{ℕ, ◌+◌, ◌*◌, ◌/◌, ◌≤◌}
use native.Mathlib.Omega.{arith}
use lib.IntN.{ℤ, ◌+ℤ◌}
use lib.ListN.{length}
use Rattle.path.specs.declared.Point.{Point}
use Rattle.path.specs.declared.Segment.{Segment}
use Rattle.path.specs.Segments.{pair_at, base, coordinate_from}
use Rattle.path.specs.Limits.{Near}
use Rattle.path.proofs.Axes.{offset_told}
use Rattle.path.proofs.Traces.{taken_by, enough_at, near_base, pen_close, pen_move, pen_line, pen_horizontal, pen_vertical}
use Rattle.path.proofs.tracing.line_pen.Goals as goal
use Rattle.path.proofs.tracing.line_pen.Tie as tie
use Rattle.path.proofs.tracing.line_pen.Lts as lts
use Rattle.path.proofs.tracing.line_pen.Reads as reads

abbrev coordinate : lts.After-split tie.the-claims reads.Pre reads.Post → ℕ → ℤ
coordinate split = let a = split.args in coordinate_from a.coordinates.now a.walk.used

near : (c : lts.After-base tie.the-claims reads.Pre reads.Post) → Near c.base-base.result
near c =
    subst Near (sym c.base-base.ensures) (near_base c.args.byte c.args.walk.pen c.requires.0.held)

-- what the segment is, by the command
kind : (split : lts.After-split tie.the-claims reads.Pre reads.Post) → (k : ℕ) → split.split-s.result.command ≡ k → split.args.byte / 2 ≡ k
kind split k e = sym (ap (λ (s : Segment). s.command) split.split-s.ensures) ∙ e

enough : (split : lts.After-split tie.the-claims reads.Pre reads.Post) → (k : ℕ) → split.split-s.result.command ≡ k
    → 2 * (split.args.walk.used + taken_by k) ≤ length split.args.coordinates.now
enough split k e = enough_at split.args.coordinates.now split.args.walk split.args.byte k split.requires.0 ((kind split k) e)

-- its point, by the definition of its base
at_base : (split : lts.After-split tie.the-claims reads.Pre reads.Post) (p : Point) → p ≡ pair_at split.base-base.result (coordinate split) 0
    → p ≡ pair_at (base split.args.byte split.args.walk.pen) (coordinate split) 0
at_base split p e = e ∙ ap (λ (o : Point). pair_at o (coordinate split) 0) split.base-base.ensures

pub returns-in-0 : goal.returns-in-0
returns-in-0 c =
    let a = c.args in
    c.close.ensures ∙ pen_close a.walk.pen a.byte (coordinate c.before.before.before) (kind c.before.before.before 0 c.in-0.is)

pub returns-in-1 : goal.returns-in-1
returns-in-1 c =
    let end = c.pair_at in
    let a = c.args in
    c.move_to.ensures
    ∙ pen_move a.walk.pen a.byte (coordinate c.before.before.before.before) (kind c.before.before.before.before 1 c.in-1.is) end.result
    (at_base c.before.before.before.before end.result end.ensures)

pub returns-in-2 : goal.returns-in-2
returns-in-2 c =
    let end = c.pair_at-in-2 in
    let a = c.args in
    c.line_to.ensures
    ∙ pen_line a.walk.pen a.byte (coordinate c.before.before.before.before) (kind c.before.before.before.before 2 c.in-2.is) end.result
    (at_base c.before.before.before.before end.result end.ensures)

pub returns-in-3 : goal.returns-in-3
returns-in-3 c =
    let end = c.offset in
    let a = c.args in
    let x = offset_told c.base-base.result.x (near c.before.before.before.before.before.before).x end.result
    (coordinate c.before.before.before.before.before 0) end.type_inv end.ensures in
    c.horizontal_to.ensures
    ∙ pen_horizontal a.walk.pen a.byte (coordinate c.before.before.before.before.before) (kind c.before.before.before.before.before 3 c.in-3.is) _
    (x ∙ ap (λ (p : Point). p.x +ℤ coordinate c.before.before.before.before.before 0) c.base-base.ensures)

pub returns-in_default : goal.returns-in_default
returns-in_default c =
    let vertical : c.split-s.result.command ≡ 4 = omega (arith, kind c.before.before.before.before.before _ refl) in
    let end = c.offset-in_default in
    let a = c.args in
    let y = offset_told c.base-base.result.y (near c.before.before.before.before.before.before).y end.result
    (coordinate c.before.before.before.before.before 0) end.type_inv end.ensures in
    c.vertical_to.ensures
    ∙ pen_vertical a.walk.pen a.byte (coordinate c.before.before.before.before.before) (kind c.before.before.before.before.before 4 vertical) _
    (y ∙ ap (λ (p : Point). p.y +ℤ coordinate c.before.before.before.before.before 0) c.base-base.ensures)
