-- `plain::samples::Outline::wind` meets its contract. Assumes nothing.
use mathlib.Core.Path.{◌≡◌, refl, sym, ap, ap₂, subst, ◌∙◌}
use Prim.Native.Nat.{◌+◌}
use native.Mathlib.Omega.{arith}
use lib.IntN.{◌+ℤ◌}
use mir.Syntax.{w32}
use mir.Val.{to_z, of_z}
use mir.Facts.{to_z-of_z}
use Rattle.fixed.proofs.Signed.{back, abs_fits}
use Rattle.path.specs.Stored.{edges_of, Small}
use Rattle.coverage.specs.Winding.{winding, counts}
use Rattle.plain.proofs.Wound.{winding_more, winding_small}
use borrow.Author.Rules.{rules}
use Rattle.plain.proofs.samples.Outline.wind.Goals as goal

-- the sum with one edge more
summed : (c : goal.After-count-sum)
    → let l = c.loop-i in
    to_z w32 l.sum-bits +ℤ to_z w32 (of_z w32 c.count-sum.result)
    ≡ winding (edges_of c.args.self.now.scratch.now (l.i + 1)) (to_z w32 (of_z w32 c.args.x)) (to_z w32 (of_z w32 c.args.y))
summed c =
    let l = c.loop-i in
    let X = to_z w32 (of_z w32 c.args.x) in
    let Y = to_z w32 (of_z w32 c.args.y) in
    ap₂ ◌+ℤ◌ l.invariant.1 (back w32 c.count-sum.result c.count-sum.type_inv ∙ c.count-sum.ensures ∙ ap (counts X Y) c.load-e.ensures)
    ∙ sym (winding_more c.args.self.now.scratch.now X Y l.i)

pub loop-i-init : goal.loop-i-init
unfolding winding
loop-i-init c =
    (search rules, refl)

pub load-e-requires : goal.load-e-requires
load-e-requires c =
    let p = c.args.self.now.outlined in
    omega (arith, p.few, p.room)

pub count-sum-requires : goal.count-sum-requires
count-sum-requires c = (
  subst Small (sym c.load-e.ensures) (c.args.self.now.outlined.small c.loop-i.i (omega arith)),
  rw (to_z-of_z c.ranges.x) c.requires.0,
  rw (to_z-of_z c.ranges.y) c.requires.1,
)

pub overflow_add-sum : goal.overflow_add-sum
overflow_add-sum c =
    let l = c.loop-i in
    abs_fits w32 _ (l.i + 1)
    (rw (summed c) (winding_small c.args.self.now.scratch.now (to_z w32 (of_z w32 c.args.x)) (to_z w32 (of_z w32 c.args.y)) (l.i + 1)))
    (omega (arith, c.args.self.now.outlined.few))

pub loop-i-preserved : goal.loop-i-preserved
loop-i-preserved c =
    (search rules, to_z-of_z (overflow_add-sum c) ∙ summed c)

pub returns : goal.returns
returns c =
    let e : c.loop-i.i ≡ c.args.self.now.edges = omega arith in
    c.loop-i.invariant.1 ∙ rw (to_z-of_z c.ranges.x, to_z-of_z c.ranges.y, e)
