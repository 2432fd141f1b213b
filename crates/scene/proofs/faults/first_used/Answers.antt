use Rattle.std.proofs.Common.{sym, ◌∙◌}
use Rattle.scene.proofs.First.{returned, unused_hit}
use Rattle.scene.proofs.faults.first_used.Goals as goal

pub returns-in_err-must : goal.returns-in_err-must
returns-in_err-must c =
    let a = c.args in
    let l = c.loop-at in
    returned c.from_residual.result _ c.from_residual.ensures.1
    ∙ sym (unused_hit a.d.now a.from l.at l.auto.at a.to _ c.loop-at-test.true l.invariant (sym c.in_err-must.ensures))
