use mathlib.Core.Path.{◌≡◌, refl, ◌∙◌}
use native.Mathlib.Omega.{arith}
use lib.IntN.{pos}
use lib.ListN.{length, get_or}
use borrow.Author.Count.{below_more}
use Rattle.lists.proofs.Laws.{tab_ext}
use Rattle.limits.proofs.Numbers.{same_bits, other_bits}
use Rattle.limits.proofs.patterns.follows.Goals as goal

pub returns-then-n-at : goal.returns-then-n-at
returns-then-n-at g c =
    λ f r. other_bits f c.args.s.now c.loop-i.i c.at.result (r c.loop-i.i c.at.result c.at.ensures) c.loop-i-test.true c.if-n-at.true

pub loop-i-preserved : goal.loop-i-preserved
loop-i-preserved g c =
    let l = c.loop-i in
    λ f r. below_more (λ k. get_or c.args.s.now k (pos 0) ≡ f k) l.i (l.invariant f r)
    (same_bits _ c.at.result c.n-1.given c.at.type_inv c.if-n-at.false ∙ r l.i c.at.result c.at.ensures)

pub returns : goal.returns
returns g c =
    let l = c.loop-i in
    let e : l.i ≡ length c.args.s.now = omega arith in
    λ f r. tab_ext (pos 0) c.args.s.now (length c.args.s.now) f refl (λ k h. l.invariant f r k (omega arith))
