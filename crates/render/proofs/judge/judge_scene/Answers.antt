use Rattle.std.proofs.Common.{◌≡◌, sym, ◌∙◌}
use Rattle.std.specs.Prelude.{Err}
use native.Mathlib.Omega.{arith}
use Rattle.render.proofs.Refusals.{scene_passes, scene_refused}
use Rattle.render.proofs.Draws.{fault_draw}
use Rattle.render.proofs.Faulty.{fault_has}
use Rattle.render.proofs.judge.judge_scene.Goals as goal

pub overflow_cast-result : goal.overflow_cast-result
overflow_cast-result c =
    omega (arith, fault_has _ c.in-Err.f (fault_draw c.args.masked c.args.s.now) (sym c.verdict.ensures ∙ c.in-Err.is))

pub returns-in-Ok : goal.returns-in-Ok
returns-in-Ok c =
    let a = c.args in
    c.refusal.ensures ∙ sym (scene_passes a.masked a.s.now a.number (sym c.verdict.ensures ∙ c.in-Ok.is))

pub returns-in-Err : goal.returns-in-Err
returns-in-Err c =
    let a = c.args in
    rw c.number.ensures (sym (scene_refused a.masked a.s.now a.number c.in-Err.f (sym c.verdict.ensures ∙ c.in-Err.is)))
