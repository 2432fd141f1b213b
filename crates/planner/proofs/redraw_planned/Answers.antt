-- `planner::redraw_planned` meets its contract: a refused call changes nothing, an accepted one paints the planned rectangles.
use mathlib.Core.Path.{refl, ◌∙◌}
use Prim.Native.Nat.{◌*◌}
use native.Mathlib.Omega.{arith}
use lib.ListN.{length}
use Rattle.scene.proofs.Accepted.{accepted_scene}
use Rattle.render.specs.Answers.{mask_of}
use Rattle.render.proofs.Refusals.{redraw_ready, ready_size, ready_limits, ready_mask, taken_most, accepted_block, zeroed}
use Rattle.render.proofs.Results.{taken_bytes}
use Rattle.planner.proofs.Redrawing.{plan_part, part_on, planned_refused, planned_done}
use borrow.Author.Rules.{rules}
use Rattle.planner.proofs.redraw_planned.Goals as goal

pub returns-then-f-ne-ACCEPTED : goal.returns-then-f-ne-ACCEPTED
returns-then-f-ne-ACCEPTED c =
    let a = c.args in
    let f = c.judge_redraw-f in
    planned_refused a.old.now a.new.now (mask_of a.masked a.mask.now) a.surface.now a.scratch.now f.result c.refused.result f.ensures
    c.if-f-ne-ACCEPTED.true c.refused.ensures

pub width-width-requires : goal.width-width-requires
width-width-requires c =
    let a = c.args in
    let r = redraw_ready a.old.now a.new.now (mask_of a.masked a.mask.now) (length a.surface.now) (length a.scratch.now)
    (rw c.judge_redraw-f.ensures at c.if-f-ne-ACCEPTED.false) in
    accepted_block a.masked _ r.after.scene

pub height-height-requires : goal.height-height-requires
height-height-requires c =
    let a = c.args in
    let r = redraw_ready a.old.now a.new.now (mask_of a.masked a.mask.now) (length a.surface.now) (length a.scratch.now)
    (rw c.judge_redraw-f.ensures at c.if-f-ne-ACCEPTED.false) in
    accepted_block a.masked _ r.after.scene

pub propose-n-requires : goal.propose-n-requires
propose-n-requires c =
    let a = c.args in
    let r = redraw_ready a.old.now a.new.now (mask_of a.masked a.mask.now) (length a.surface.now) (length a.scratch.now)
    (rw c.judge_redraw-f.ensures at c.if-f-ne-ACCEPTED.false) in
    record {
      accepted_scene = (accepted_scene a.old.now a.masked r.before, accepted_scene a.new.now a.masked r.after.scene);
      width_value =
          ((c.width-width.ensures.0, c.height-height.ensures.0), search rules);
    }

pub overflow_mul-k : goal.overflow_mul-k
overflow_mul-k c =
    omega (arith, c.propose-n.ensures.few)

pub taken-m-requires : goal.taken-m-requires
taken-m-requires c =
    tt

pub slice_bounds-paint_regions-end : goal.slice_bounds-paint_regions-end
slice_bounds-paint_regions-end c =
    let a = c.args in
    taken_most (mask_of a.masked a.mask.now) c.taken-m.result c.taken-m.ensures

pub slice_bounds-paint_regions-end-2 : goal.slice_bounds-paint_regions-end-2
slice_bounds-paint_regions-end-2 c =
    omega (arith, c.propose-n.ensures.few, c.propose-n.auto.rectangles)

pub paint_regions-requires : goal.paint_regions-requires
paint_regions-requires c =
    let a = c.args in
    let r = redraw_ready a.old.now a.new.now (mask_of a.masked a.mask.now) (length a.surface.now) (length a.scratch.now)
    (rw c.judge_redraw-f.ensures at c.if-f-ne-ACCEPTED.false) in
    let w = c.width-width in
    let h = c.height-height in
    let z = c.clear in
    let n = c.propose-n in
    record {
      accepted_scene = (
        accepted_scene a.new.now a.masked r.after.scene,
        zeroed a.scratch.now z.new.s z.ensures z.auto.s r.after.space,
      );
      surface_len = (
        ready_size a.new.now (mask_of a.masked a.mask.now) _ _ w.result h.result r.after w.ensures.0 h.ensures.0,
        ready_limits a.new.now (mask_of a.masked a.mask.now) _ _ w.result h.result r.after w.ensures.0 h.ensures.0,
      );
      mask_for_scene = ready_mask a.new.now (mask_of a.masked a.mask.now) _ _ w.result h.result r.after w.ensures.0 h.ensures.0 c.taken-m.result
          c.taken-m.ensures;
      all_on = part_on a.old.now a.new.now n.result (n.result * 4) _ n.new.rectangles n.ensures refl w.result h.result
          (omega (arith, w.ensures.0)) (omega (arith, h.ensures.0));
    }

pub slice_bounds-round-end : goal.slice_bounds-round-end
slice_bounds-round-end c =
    omega (arith, c.propose-n.ensures.few, c.propose-n.auto.rectangles)

pub round-requires : goal.round-requires
round-requires c =
    let a = c.args in
    let r = redraw_ready a.old.now a.new.now (mask_of a.masked a.mask.now) (length a.surface.now) (length a.scratch.now)
    (rw c.judge_redraw-f.ensures at c.if-f-ne-ACCEPTED.false) in
    let w = c.width-width in
    let h = c.height-height in
    let n = c.propose-n in
    let most = ready_limits a.new.now (mask_of a.masked a.mask.now) _ _ w.result h.result r.after w.ensures.0 h.ensures.0 in
    part_on a.old.now a.new.now n.result (n.result * 4) _ n.new.rectangles n.ensures refl 1024 1024
    (omega (arith, most.0, w.ensures.0)) (omega (arith, most.1, h.ensures.0))

pub accepted-requires : goal.accepted-requires
accepted-requires c =
    c.round.ensures.1

pub returns : goal.returns
returns c =
    let a = c.args in
    let f = c.judge_redraw-f in
    let w = c.width-width in
    let h = c.height-height in
    let p = c.paint_regions in
    let n = c.propose-n in
    planned_done a.old.now a.new.now (mask_of a.masked a.mask.now) a.surface.now a.scratch.now f.result c.accepted.result p.new.surface _
    p.new.scratch n.ensures.plan _ w.result h.result c.round.result n.ensures.planned
    (plan_part a.old.now a.new.now n.result (n.result * 4) _ n.new.rectangles n.ensures refl) f.ensures c.if-f-ne-ACCEPTED.false
    w.ensures.0 h.ensures.0 c.round.ensures.0 c.accepted.ensures
    (taken_bytes (mask_of a.masked a.mask.now) c.taken-m.result c.taken-m.ensures) p.ensures.surface_after (p.ensures.scratch_unchanged ∙ c.clear.ensures)
