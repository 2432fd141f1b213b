use mathlib.Core.Path.{◌≡◌, refl}
use native.Mathlib.Omega.{arith}
use lib.ListN.{length}
use Rattle.lists.proofs.Laws.{tab_turn, tab_all}
use Rattle.limits.proofs.patterns.fill.Goals as goal

pub loop-i-preserved : goal.loop-i-preserved
loop-i-preserved g c =
    let l = c.loop-i in
    λ f r. tab_turn f l.s c.args.s.now l.i c.at.result (r l.i c.at.result c.at.ensures) (l.invariant f r) c.loop-i-test.true

pub returns : goal.returns
returns g c =
    let l = c.loop-i in
    let e : l.i ≡ length c.args.s.now = omega arith in
    λ f r. tab_all f l.s c.args.s.now l.i _ (l.invariant f r) e refl
