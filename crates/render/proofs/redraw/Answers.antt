-- `render::redraw` meets its contract: a refused old scene changes nothing, else the redraw goes on from it.
use Rattle.render.specs.Answers.{mask_of, redraw_refusal}
use Rattle.render.proofs.Refusals.{first_refused, scene_passed}
use Rattle.render.proofs.Results.{redraw_refused}
use Rattle.render.proofs.redraw.Goals as goal

pub returns-then-f-ne-ACCEPTED : goal.returns-then-f-ne-ACCEPTED
unfolding redraw_refusal
returns-then-f-ne-ACCEPTED c =
    let a = c.args in
    let f = c.judge_scene-f in
    let done = redraw_refused a.old.now a.new.now (mask_of a.masked a.mask.now) a.surface.now a.scratch.now f.result c.refused.result
    (first_refused f.result _ _ f.ensures c.if-f-ne-ACCEPTED.true) c.if-f-ne-ACCEPTED.true c.refused.ensures in
    record { value = done.0; surface_after = done.1.0; scratch_after = done.1.1 }

pub redraw_from-requires : goal.redraw_from-requires
redraw_from-requires c =
    let a = c.args in
    let f = c.judge_scene-f in
    scene_passed a.masked a.old.now 0 f.result f.ensures c.if-f-ne-ACCEPTED.false

pub returns : goal.returns
returns c =
    record { value = c.redraw_from.ensures.value; surface_after = c.redraw_from.ensures.surface_after; scratch_after = c.redraw_from.ensures.scratch_after }
