use Rattle.render.specs.Answers.{redraw_refusal}
use Rattle.render.proofs.Refusals.{first_refused, scene_passed}
use Rattle.render.proofs.judge.judge_redraw.Goals as goal

pub returns-then-old_broken-ne-ACCEPTED : goal.returns-then-old_broken-ne-ACCEPTED
unfolding redraw_refusal
returns-then-old_broken-ne-ACCEPTED c =
    let f = c.judge_scene-old_broken in
    first_refused f.result _ _ f.ensures c.if-old_broken-ne-ACCEPTED.true

pub judge_redraw_from-requires : goal.judge_redraw_from-requires
judge_redraw_from-requires c =
    let a = c.args in
    let f = c.judge_scene-old_broken in
    scene_passed a.masked a.old.now 0 f.result f.ensures c.if-old_broken-ne-ACCEPTED.false

pub returns : goal.returns
returns c =
    c.judge_redraw_from.ensures
