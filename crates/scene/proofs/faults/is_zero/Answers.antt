use Rattle.std.proofs.Common.{arith, ap, ◌∙◌}
use Rattle.std.specs.Prelude.{is_ok}
use Rattle.scene.proofs.First.{zero_turn, unused_end}
use Rattle.scene.proofs.faults.is_zero.Goals as goal

pub loop-at-preserved : goal.loop-at-preserved
loop-at-preserved c =
    let a = c.args in
    let l = c.loop-at in
    let e = zero_turn a.d.now a.from l.at l.auto.at in
    (omega arith, cc)

pub returns : goal.returns
returns c =
    let a = c.args in
    let l = c.loop-at in
    let e = unused_end a.d.now a.from a.to l.at l.invariant.0 (omega arith) in
    l.invariant.1 ∙ ap is_ok e
