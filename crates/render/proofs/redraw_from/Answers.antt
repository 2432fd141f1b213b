-- `render::redraw_from` meets its contract: a refused call changes nothing, an accepted one paints the area.
use mathlib.Core.Path.{◌≡◌, ◌∙◌}
use mathlib.Core.List.{List}
use Prim.Native.Nat.{ℕ}
use Rattle.render.specs.declared.Refusal.{Refusal}
use Rattle.render.specs.Answers.{Mask, mask_of, redraw_refusal}
use Rattle.render.proofs.Refusals.{ReadyBoth, redraw_ready, ready_size, ready_limits, ready_mask, taken_most, ready_within, accepted_block, zeroed}
use Rattle.render.proofs.Results.{redraw_refused, redraw_done, taken_bytes}
use Rattle.scene.proofs.Accepted.{accepted_scene}
use Rattle.render.proofs.redraw_from.Goals as goal

-- what an accepted call has, from what was judged
ready : (old new : List ℕ) (m : Mask) (surface scratch : ℕ) (f : Refusal) → f ≡ redraw_refusal old new m surface scratch → f.code ≡ 0
    → ReadyBoth old new m surface scratch
ready old new m surface scratch f e z = redraw_ready old new m surface scratch (rw e at z)

pub returns-then-f-ne-ACCEPTED : goal.returns-then-f-ne-ACCEPTED
returns-then-f-ne-ACCEPTED c =
    let a = c.args in
    let f = c.judge_redraw_from-f in
    let done = redraw_refused a.old.now a.new.now (mask_of c.args.masked c.args.mask.now) a.surface.now a.scratch.now f.result c.refused.result f.ensures
    c.if-f-ne-ACCEPTED.true
    c.refused.ensures in
    record { value = done.0; surface_after = done.1.0; scratch_after = done.1.1 }

pub width-width-requires : goal.width-width-requires
width-width-requires c =
    accepted_block c.args.masked _ (ready c.args.old.now c.args.new.now (mask_of c.args.masked c.args.mask.now) _ _ _ c.judge_redraw_from-f.ensures
    c.if-f-ne-ACCEPTED.false).after.scene

pub height-height-requires : goal.height-height-requires
height-height-requires c =
    accepted_block c.args.masked _ (ready c.args.old.now c.args.new.now (mask_of c.args.masked c.args.mask.now) _ _ _ c.judge_redraw_from-f.ensures
    c.if-f-ne-ACCEPTED.false).after.scene

pub count-n-requires : goal.count-n-requires
count-n-requires c =
    accepted_block c.args.masked _ (ready c.args.old.now c.args.new.now (mask_of c.args.masked c.args.mask.now) _ _ _ c.judge_redraw_from-f.ensures
    c.if-f-ne-ACCEPTED.false).after.scene

pub damage-a-requires : goal.damage-a-requires
damage-a-requires c =
    let a = c.args in
    let r = ready c.args.old.now c.args.new.now (mask_of c.args.masked c.args.mask.now) _ _ _ c.judge_redraw_from-f.ensures c.if-f-ne-ACCEPTED.false in
    record {
      accepted_scene = (accepted_scene a.old.now a.masked r.before, accepted_scene a.new.now a.masked r.after.scene);
      width_bound = ready_limits a.new.now (mask_of c.args.masked c.args.mask.now) _ _ c.width-width.result c.height-height.result r.after
          c.width-width.ensures.0
          c.height-height.ensures.0;
      blank = zeroed a.scratch.now c.clear.new.s c.clear.ensures c.clear.auto.s r.after.space;
    }

pub slice_bounds-paint_area-end : goal.slice_bounds-paint_area-end
slice_bounds-paint_area-end c =
    taken_most (mask_of c.args.masked c.args.mask.now) c.taken-m.result c.taken-m.ensures

pub paint_area-requires : goal.paint_area-requires
paint_area-requires c =
    let a = c.args in
    let r = ready c.args.old.now c.args.new.now (mask_of c.args.masked c.args.mask.now) _ _ _ c.judge_redraw_from-f.ensures c.if-f-ne-ACCEPTED.false in
    let w = c.width-width in
    let h = c.height-height in
    let z = c.clear in
    let d = c.damage-a in
    let n = zeroed a.scratch.now z.new.s z.ensures z.auto.s r.after.space in
    record {
      accepted_scene = (accepted_scene a.new.now a.masked r.after.scene, c.count-n.ensures.0);
      blank = rw d.ensures.scratch_unchanged n;
      area = (
        (
          ready_size a.new.now (mask_of c.args.masked c.args.mask.now) _ _ w.result h.result r.after w.ensures.0 h.ensures.0,
          (d.ensures.value.1, ready_limits a.new.now (mask_of c.args.masked c.args.mask.now) _ _ w.result h.result r.after w.ensures.0 h.ensures.0),
        ),
        ready_mask a.new.now (mask_of c.args.masked c.args.mask.now) _ _ w.result h.result r.after w.ensures.0 h.ensures.0 c.taken-m.result
            c.taken-m.ensures,
      );
    }

pub accepted-requires : goal.accepted-requires
accepted-requires c =
    ready_within c.args.new.now (mask_of c.args.masked c.args.mask.now) _ _ c.width-width.result c.height-height.result
    (ready c.args.old.now c.args.new.now (mask_of c.args.masked c.args.mask.now) _ _ _ c.judge_redraw_from-f.ensures c.if-f-ne-ACCEPTED.false).after
    c.width-width.ensures.0
    c.height-height.ensures.0 c.damage-a.result c.damage-a.ensures.value.1

pub returns : goal.returns
returns c =
    let a = c.args in
    let f = c.judge_redraw_from-f in
    let w = c.width-width in
    let h = c.height-height in
    let d = c.damage-a in
    let p = c.paint_area in
    let done = redraw_done a.old.now a.new.now (mask_of c.args.masked c.args.mask.now) a.surface.now a.scratch.now f.result c.accepted.result p.new.surface _
    p.new.scratch
    w.result h.result d.result f.ensures c.if-f-ne-ACCEPTED.false w.ensures.0 h.ensures.0 d.ensures.value.0 c.accepted.ensures
    (taken_bytes (mask_of c.args.masked c.args.mask.now) c.taken-m.result c.taken-m.ensures) p.ensures.surface_after
    (p.ensures.scratch_unchanged ∙ d.ensures.scratch_unchanged ∙ c.clear.ensures) in
    record { value = done.0; surface_after = done.1.0; scratch_after = done.1.1 }
