use Rattle.std.proofs.Common.{sym, ◌∙◌}
use Rattle.codes.proofs.Judged.{refuse_turn}
use Rattle.scene.specs.Layout.{draw_blocks}
use Rattle.scene.specs.Rules.{check_faults_from}
use Rattle.scene.proofs.First.{returned}
use Rattle.scene.proofs.verdict.check_faults.Invariants.{check_of}
use Rattle.scene.proofs.verdict.check_faults.Goals as goal

pub returns-in_err-demand : goal.returns-in_err-demand
unfolding check_faults_from
returns-in_err-demand c =
    let l = c.loop-j in
    let a = c.args in
    returned c.from_residual.result _ c.from_residual.ensures.1
    ∙ sym (refuse_turn (check_of a.s.now a.i) l.j draw_blocks _ c.loop-j-test.true l.invariant
    (rw (← c.block_right.ensures, ← c.fault-spoiled.ensures) (sym c.in_err-demand.ensures)))
