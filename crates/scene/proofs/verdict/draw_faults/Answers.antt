use Rattle.std.proofs.Common.{sym, ◌∙◌}
use Rattle.codes.proofs.Judged.{refuse_turn}
use Rattle.scene.proofs.First.{returned}
use Rattle.scene.proofs.verdict.draw_faults.Goals as goal

pub returns-in_err-draw_fault : goal.returns-in_err-draw_fault
returns-in_err-draw_fault c =
    let l = c.loop-i in
    returned c.from_residual.result _ c.from_residual.ensures.1
    ∙ sym (refuse_turn _ l.i c.args.n _ c.loop-i-test.true l.invariant (sym c.in_err-draw_fault.ensures))
