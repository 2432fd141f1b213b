use native.Mathlib.Omega.{arith}
use lib.ListN.{length}
use Rattle.scene.proofs.Accepted.{accepted_scene}
use Rattle.render.specs.Answers.{mask_of}
use Rattle.render.proofs.Refusals.{accepted_block}
use Rattle.planner.proofs.Answering.{plan_ready, plan_refused, plan_done}
use Rattle.planner.proofs.planning.plan.Goals as goal

pub returns-then-f-ne-ACCEPTED : goal.returns-then-f-ne-ACCEPTED
returns-then-f-ne-ACCEPTED c =
    let a = c.args in
    let f = c.judge_plan-f in
    plan_refused a.old.now a.new.now (mask_of a.masked a.mask.now) a.rectangles.now f.result c.answer.result f.ensures c.if-f-ne-ACCEPTED.true
    c.answer.ensures

pub width-requires : goal.width-requires
width-requires c =
    let a = c.args in
    let r = plan_ready a.old.now a.new.now (mask_of a.masked a.mask.now) (length a.rectangles.now) (rw c.judge_plan-f.ensures at c.if-f-ne-ACCEPTED.false) in
    accepted_block a.masked _ r.0.after.scene

pub height-requires : goal.height-requires
height-requires c =
    let a = c.args in
    let r = plan_ready a.old.now a.new.now (mask_of a.masked a.mask.now) (length a.rectangles.now) (rw c.judge_plan-f.ensures at c.if-f-ne-ACCEPTED.false) in
    accepted_block a.masked _ r.0.after.scene

pub propose-n-requires : goal.propose-n-requires
propose-n-requires c =
    let a = c.args in
    let r = plan_ready a.old.now a.new.now (mask_of a.masked a.mask.now) (length a.rectangles.now) (rw c.judge_plan-f.ensures at c.if-f-ne-ACCEPTED.false) in
    record {
      accepted_scene = (accepted_scene a.old.now a.masked r.0.before, accepted_scene a.new.now a.masked r.0.after.scene);
      width_value =
          ((c.width.ensures.0, c.height.ensures.0), r.1);
    }

pub overflow_cast-n : goal.overflow_cast-n
overflow_cast-n c =
    omega (arith, c.propose-n.ensures.few)

pub returns : goal.returns
returns c =
    let a = c.args in
    let f = c.judge_plan-f in
    plan_done a.old.now a.new.now (mask_of a.masked a.mask.now) a.rectangles.now f.result c.answer-2.result c.propose-n.result
    c.propose-n.new.rectangles f.ensures c.if-f-ne-ACCEPTED.false c.propose-n.ensures c.answer-2.ensures
