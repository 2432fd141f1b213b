-- `render::draw` meets its contract: a refused call changes nothing, an accepted one paints the whole surface.
use mathlib.Core.Path.{◌≡◌, ◌∙◌}
use mathlib.Core.List.{List}
use Prim.Native.Nat.{ℕ}
use Rattle.render.specs.declared.Refusal.{Refusal}
use Rattle.rect.specs.Rects.{whole}
use Rattle.render.specs.Answers.{Mask, mask_of, draw_refusal}
use Rattle.render.proofs.Refusals.{Ready, draw_ready, ready_size, ready_limits, ready_mask, taken_most, ready_within, whole_on, accepted_block, zeroed}
use Rattle.render.proofs.Results.{draw_refused, draw_done, taken_bytes}
use Rattle.scene.proofs.Accepted.{accepted_scene}
use Rattle.render.proofs.draw.Goals as goal

-- what an accepted call has, from what was judged
ready : (s : List ℕ) (m : Mask) (surface scratch : ℕ) (f : Refusal) → f ≡ draw_refusal s m surface scratch → f.code ≡ 0 → Ready s m surface scratch
ready s m surface scratch f e z = draw_ready s m surface scratch (rw e at z)

pub returns-then-f-ne-ACCEPTED : goal.returns-then-f-ne-ACCEPTED
returns-then-f-ne-ACCEPTED c =
    let a = c.args in
    let f = c.judge_draw-f in
    let done = draw_refused a.scene.now (mask_of c.args.masked c.args.mask.now) a.surface.now a.scratch.now f.result c.refused.result f.ensures
    c.if-f-ne-ACCEPTED.true
    c.refused.ensures in
    record { value = done.0; surface_after = done.1.0; scratch_after = done.1.1 }

pub width-width-requires : goal.width-width-requires
width-width-requires c =
    accepted_block c.args.masked _ (ready c.args.scene.now (mask_of c.args.masked c.args.mask.now) _ _ _ c.judge_draw-f.ensures c.if-f-ne-ACCEPTED.false).scene

pub height-height-requires : goal.height-height-requires
height-height-requires c =
    accepted_block c.args.masked _ (ready c.args.scene.now (mask_of c.args.masked c.args.mask.now) _ _ _ c.judge_draw-f.ensures c.if-f-ne-ACCEPTED.false).scene

pub count-n-requires : goal.count-n-requires
count-n-requires c =
    accepted_block c.args.masked _ (ready c.args.scene.now (mask_of c.args.masked c.args.mask.now) _ _ _ c.judge_draw-f.ensures c.if-f-ne-ACCEPTED.false).scene

pub slice_bounds-paint_area-end : goal.slice_bounds-paint_area-end
slice_bounds-paint_area-end c =
    taken_most (mask_of c.args.masked c.args.mask.now) c.taken-m.result c.taken-m.ensures

pub paint_area-requires : goal.paint_area-requires
paint_area-requires c =
    let a = c.args in
    let r = ready c.args.scene.now (mask_of c.args.masked c.args.mask.now) _ _ _ c.judge_draw-f.ensures c.if-f-ne-ACCEPTED.false in
    let w = c.width-width in
    let h = c.height-height in
    let z = c.clear in
    record {
      accepted_scene = (accepted_scene a.scene.now a.masked r.scene, c.count-n.ensures.0);
      blank = zeroed a.scratch.now z.new.s z.ensures z.auto.s r.space;
      area = (
        (
          ready_size a.scene.now (mask_of c.args.masked c.args.mask.now) _ _ w.result h.result r w.ensures.0 h.ensures.0,
          (whole_on w.result h.result, ready_limits a.scene.now (mask_of c.args.masked c.args.mask.now) _ _ w.result h.result r w.ensures.0 h.ensures.0),
        ),
        ready_mask a.scene.now (mask_of c.args.masked c.args.mask.now) _ _ w.result h.result r w.ensures.0 h.ensures.0 c.taken-m.result
            c.taken-m.ensures,
      );
    }

pub accepted-requires : goal.accepted-requires
accepted-requires c =
    ready_within c.args.scene.now (mask_of c.args.masked c.args.mask.now) _ _ c.width-width.result c.height-height.result
    (ready c.args.scene.now (mask_of c.args.masked c.args.mask.now) _ _ _ c.judge_draw-f.ensures c.if-f-ne-ACCEPTED.false)
    c.width-width.ensures.0
    c.height-height.ensures.0 (whole c.width-width.result c.height-height.result)
    (whole_on c.width-width.result c.height-height.result)

pub returns : goal.returns
returns c =
    let a = c.args in
    let f = c.judge_draw-f in
    let w = c.width-width in
    let h = c.height-height in
    let p = c.paint_area in
    let done = draw_done a.scene.now (mask_of c.args.masked c.args.mask.now) a.surface.now a.scratch.now f.result c.accepted.result p.new.surface _
    p.new.scratch w.result
    h.result f.ensures c.if-f-ne-ACCEPTED.false w.ensures.0 h.ensures.0 c.accepted.ensures
    (taken_bytes (mask_of c.args.masked c.args.mask.now) c.taken-m.result c.taken-m.ensures) p.ensures.surface_after
    (p.ensures.scratch_unchanged ∙ c.clear.ensures) in
    record { value = done.0; surface_after = done.1.0; scratch_after = done.1.1 }
