use Rattle.std.proofs.Common.{sym, ◌∙◌}
use Rattle.codes.proofs.Judged.{refuse_turn}
use Rattle.scene.proofs.First.{returned}
use Rattle.scene.proofs.faults.patterns.Goals as goal

pub returns-in_err-must : goal.returns-in_err-must
returns-in_err-must c =
    let l = c.loop-i in
    returned c.from_residual.result _ c.from_residual.ensures.1
    ∙ sym (refuse_turn _ l.i c.args.n _ c.loop-i-test.true l.invariant (rw (← c.u32_at.ensures) (sym c.in_err-must.ensures)))
