-- `regions::redraw_regions` meets its contract: a refused call changes nothing, an accepted one paints the rectangles.
use mathlib.Core.Path.{◌∙◌}
use native.Mathlib.Omega.{arith}
use lib.ListN.{length}
use Rattle.scene.proofs.Accepted.{accepted_scene}
use Rattle.render.specs.Answers.{mask_of}
use Rattle.render.proofs.Refusals.{ready_size, ready_limits, ready_mask, taken_most, accepted_block, zeroed}
use Rattle.render.proofs.Results.{taken_bytes}
use Rattle.regions.proofs.Results.{regions_ready, regions_refused, regions_done, accepted_on}
use Rattle.regions.proofs.redraw_regions.Goals as goal

pub returns-then-f-ne-ACCEPTED : goal.returns-then-f-ne-ACCEPTED
returns-then-f-ne-ACCEPTED c =
    let a = c.args in
    let f = c.judge_regions-f in
    record {
      value = (regions_refused a.old.now a.new.now (mask_of a.masked a.mask.now) a.rectangles.now a.surface.now a.scratch.now f.result c.refused.result
          f.ensures c.if-f-ne-ACCEPTED.true c.refused.ensures).0;
      surface_after = (regions_refused a.old.now a.new.now (mask_of a.masked a.mask.now) a.rectangles.now a.surface.now a.scratch.now f.result c.refused.result
          f.ensures c.if-f-ne-ACCEPTED.true c.refused.ensures).1.0;
      scratch_after = (regions_refused a.old.now a.new.now (mask_of a.masked a.mask.now) a.rectangles.now a.surface.now a.scratch.now f.result c.refused.result
          f.ensures c.if-f-ne-ACCEPTED.true c.refused.ensures).1.1;
    }

pub width-width-requires : goal.width-width-requires
width-width-requires c =
    let a = c.args in
    let r = regions_ready a.old.now a.new.now (mask_of a.masked a.mask.now) a.rectangles.now (length a.surface.now) (length a.scratch.now)
    (rw c.judge_regions-f.ensures at c.if-f-ne-ACCEPTED.false) in
    accepted_block a.masked _ r.0.after.scene

pub height-height-requires : goal.height-height-requires
height-height-requires c =
    let a = c.args in
    let r = regions_ready a.old.now a.new.now (mask_of a.masked a.mask.now) a.rectangles.now (length a.surface.now) (length a.scratch.now)
    (rw c.judge_regions-f.ensures at c.if-f-ne-ACCEPTED.false) in
    accepted_block a.masked _ r.0.after.scene

pub taken-m-requires : goal.taken-m-requires
taken-m-requires c =
    tt

pub slice_bounds-paint_regions-end : goal.slice_bounds-paint_regions-end
slice_bounds-paint_regions-end c =
    let a = c.args in
    taken_most (mask_of a.masked a.mask.now) c.taken-m.result c.taken-m.ensures

pub paint_regions-requires : goal.paint_regions-requires
paint_regions-requires c =
    let a = c.args in
    let r = regions_ready a.old.now a.new.now (mask_of a.masked a.mask.now) a.rectangles.now (length a.surface.now) (length a.scratch.now)
    (rw c.judge_regions-f.ensures at c.if-f-ne-ACCEPTED.false) in
    let w = c.width-width in
    let h = c.height-height in
    let z = c.clear in
    record {
      accepted_scene = (
        accepted_scene a.new.now a.masked r.0.after.scene,
        zeroed a.scratch.now z.new.s z.ensures z.auto.s r.0.after.space,
      );
      surface_len = (
        ready_size a.new.now (mask_of a.masked a.mask.now) _ _ w.result h.result r.0.after w.ensures.0 h.ensures.0,
        ready_limits a.new.now (mask_of a.masked a.mask.now) _ _ w.result h.result r.0.after w.ensures.0 h.ensures.0,
      );
      mask_for_scene = ready_mask a.new.now (mask_of a.masked a.mask.now) _ _ w.result h.result r.0.after w.ensures.0 h.ensures.0 c.taken-m.result
          c.taken-m.ensures;
      all_on = accepted_on a.old.now a.new.now a.rectangles.now r.1 w.result h.result (omega (arith, w.ensures.0))
          (omega (arith, h.ensures.0));
    }

pub round-requires : goal.round-requires
round-requires c =
    let a = c.args in
    let r = regions_ready a.old.now a.new.now (mask_of a.masked a.mask.now) a.rectangles.now (length a.surface.now) (length a.scratch.now)
    (rw c.judge_regions-f.ensures at c.if-f-ne-ACCEPTED.false) in
    let w = c.width-width in
    let h = c.height-height in
    let most = ready_limits a.new.now (mask_of a.masked a.mask.now) _ _ w.result h.result r.0.after w.ensures.0 h.ensures.0 in
    accepted_on a.old.now a.new.now a.rectangles.now r.1 1024 1024 (omega (arith, most.0, w.ensures.0))
    (omega (arith, most.1, h.ensures.0))

pub accepted-requires : goal.accepted-requires
accepted-requires c =
    c.round.ensures.1

pub returns : goal.returns
returns c =
    let a = c.args in
    let f = c.judge_regions-f in
    let w = c.width-width in
    let h = c.height-height in
    let p = c.paint_regions in
    record {
      value = (regions_done a.old.now a.new.now (mask_of a.masked a.mask.now) a.rectangles.now a.surface.now a.scratch.now f.result c.accepted.result
          p.new.surface _ p.new.scratch w.result h.result c.round.result f.ensures c.if-f-ne-ACCEPTED.false w.ensures.0 h.ensures.0
          c.round.ensures.0 c.accepted.ensures (taken_bytes (mask_of a.masked a.mask.now) c.taken-m.result c.taken-m.ensures)
          p.ensures.surface_after
          (p.ensures.scratch_unchanged ∙ c.clear.ensures)).0;
      surface_after = (regions_done a.old.now a.new.now (mask_of a.masked a.mask.now) a.rectangles.now a.surface.now a.scratch.now f.result c.accepted.result
          p.new.surface _ p.new.scratch w.result h.result c.round.result f.ensures c.if-f-ne-ACCEPTED.false w.ensures.0 h.ensures.0
          c.round.ensures.0 c.accepted.ensures (taken_bytes (mask_of a.masked a.mask.now) c.taken-m.result c.taken-m.ensures)
          p.ensures.surface_after
          (p.ensures.scratch_unchanged ∙ c.clear.ensures)).1.0;
      scratch_after = (regions_done a.old.now a.new.now (mask_of a.masked a.mask.now) a.rectangles.now a.surface.now a.scratch.now f.result c.accepted.result
          p.new.surface _ p.new.scratch w.result h.result c.round.result f.ensures c.if-f-ne-ACCEPTED.false w.ensures.0 h.ensures.0
          c.round.ensures.0 c.accepted.ensures (taken_bytes (mask_of a.masked a.mask.now) c.taken-m.result c.taken-m.ensures)
          p.ensures.surface_after
          (p.ensures.scratch_unchanged ∙ c.clear.ensures)).1.1;
    }
