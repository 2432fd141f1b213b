use mathlib.Core.Path.{sym, ◌∙◌}
use Rattle.render.specs.Answers.{mask_of}
use Rattle.render.proofs.Refusals.{redraw_ready, ready_limits, accepted_block}
use Rattle.scene.proofs.Accepted.{accepted_scene}
use Rattle.regions.proofs.Results.{proposal_passes, proposal_rejects, judged, by_redraw, by_proposal}
use Rattle.regions.proofs.judge_regions.Goals as goal

pub returns-then-f-ne-ACCEPTED : goal.returns-then-f-ne-ACCEPTED
returns-then-f-ne-ACCEPTED c =
    let a = c.args in
    let f = c.judge_redraw-f in
    by_redraw a.old.now a.new.now (mask_of a.masked a.mask.now) a.rectangles.now a.surface a.scratch f.result f.ensures c.if-f-ne-ACCEPTED.true

pub width-requires : goal.width-requires
width-requires c =
    let a = c.args in
    let r = redraw_ready a.old.now a.new.now (mask_of a.masked a.mask.now) a.surface a.scratch (rw c.judge_redraw-f.ensures at c.if-f-ne-ACCEPTED.false) in
    accepted_block a.masked _ r.after.scene

pub height-requires : goal.height-requires
height-requires c =
    let a = c.args in
    let r = redraw_ready a.old.now a.new.now (mask_of a.masked a.mask.now) a.surface a.scratch (rw c.judge_redraw-f.ensures at c.if-f-ne-ACCEPTED.false) in
    accepted_block a.masked _ r.after.scene

pub accept-requires : goal.accept-requires
accept-requires c =
    let a = c.args in
    let r = redraw_ready a.old.now a.new.now (mask_of a.masked a.mask.now) a.surface a.scratch (rw c.judge_redraw-f.ensures at c.if-f-ne-ACCEPTED.false) in
    record {
      accepted_scene = (accepted_scene a.old.now a.masked r.before, accepted_scene a.new.now a.masked r.after.scene);
      width_bound = ready_limits a.new.now (mask_of a.masked a.mask.now) _ _ c.width.result c.height.result r.after c.width.ensures.0
          c.height.ensures.0;
    }

pub returns-then-accept : goal.returns-then-accept
returns-then-accept c =
    let f = c.judge_redraw-f in
    let a = c.args in
    by_proposal a.old.now a.new.now (mask_of a.masked a.mask.now) a.rectangles.now a.surface a.scratch f.result c.verdict.result f.ensures
    c.if-f-ne-ACCEPTED.false
    (c.verdict.ensures
    ∙ sym (proposal_passes a.old.now a.new.now a.rectangles.now
    (judged a.old.now a.new.now a.rectangles.now c.width.result c.height.result c.accept.result _ c.width.ensures.0
    c.height.ensures.0 c.accept.ensures c.if-accept.true)))

pub returns : goal.returns
returns c =
    let f = c.judge_redraw-f in
    let a = c.args in
    by_proposal a.old.now a.new.now (mask_of a.masked a.mask.now) a.rectangles.now a.surface a.scratch f.result c.verdict-2.result f.ensures
    c.if-f-ne-ACCEPTED.false
    (c.verdict-2.ensures
    ∙ sym (proposal_rejects a.old.now a.new.now a.rectangles.now
    (judged a.old.now a.new.now a.rectangles.now c.width.result c.height.result c.accept.result _ c.width.ensures.0
    c.height.ensures.0 c.accept.ensures c.if-accept.false)))
