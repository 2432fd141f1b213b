-- `plain::draw_plain` meets its contract: a refused call changes nothing, an accepted one draws the whole picture.
use mathlib.Core.Path.{◌≡◌, sym, ◌∙◌}
use mathlib.Core.List.{List}
use Prim.Native.Nat.{ℕ}
use native.Mathlib.Omega.{arith}
use Rattle.rect.specs.Rects.{whole}
use Rattle.raster.proofs.Overlay.{overlay_whole}
use Rattle.render.specs.declared.Refusal.{Refusal}
use Rattle.render.specs.Answers.{Mask, mask_of, draw_refusal}
use Rattle.render.proofs.Refusals.{Ready, draw_ready, ready_size, ready_limits, ready_mask, taken_most, ready_within, whole_on, accepted_block, zeroed}
use Rattle.render.proofs.Results.{draw_refused, draw_done, taken_bytes}
use Rattle.scene.proofs.Accepted.{accepted_scene}
use Rattle.plain.proofs.draw_plain.Goals as goal

-- what an accepted call has, from what was judged
ready : (s : List ℕ) (m : Mask) (surface scratch : ℕ) (f : Refusal) → f ≡ draw_refusal s m surface scratch → f.code ≡ 0 → Ready s m surface scratch
ready s m surface scratch f e z = draw_ready s m surface scratch (rw e at z)

pub returns-then-f-ne-ACCEPTED : goal.returns-then-f-ne-ACCEPTED
returns-then-f-ne-ACCEPTED c =
    let a = c.args in
    let f = c.judge_draw-f in
    let done = draw_refused a.scene.now (mask_of a.masked a.mask.now) a.surface.now a.scratch.now f.result c.refused.result f.ensures
    c.if-f-ne-ACCEPTED.true c.refused.ensures in
    record { value = done.0; surface_after = done.1.0; scratch_after = done.1.1 }

pub width-width-requires : goal.width-width-requires
width-width-requires c =
    let a = c.args in
    accepted_block a.masked _ (ready a.scene.now (mask_of a.masked a.mask.now) _ _ _ c.judge_draw-f.ensures c.if-f-ne-ACCEPTED.false).scene

pub height-height-requires : goal.height-height-requires
height-height-requires c =
    let a = c.args in
    accepted_block a.masked _ (ready a.scene.now (mask_of a.masked a.mask.now) _ _ _ c.judge_draw-f.ensures c.if-f-ne-ACCEPTED.false).scene

pub count-n-requires : goal.count-n-requires
count-n-requires c =
    let a = c.args in
    accepted_block a.masked _ (ready a.scene.now (mask_of a.masked a.mask.now) _ _ _ c.judge_draw-f.ensures c.if-f-ne-ACCEPTED.false).scene

pub slice_bounds-draw_scene-end : goal.slice_bounds-draw_scene-end
slice_bounds-draw_scene-end c =
    let a = c.args in
    taken_most (mask_of a.masked a.mask.now) c.taken-m.result c.taken-m.ensures

pub draw_scene-requires : goal.draw_scene-requires
draw_scene-requires c =
    let a = c.args in
    let m = mask_of a.masked a.mask.now in
    let r = ready a.scene.now m _ _ _ c.judge_draw-f.ensures c.if-f-ne-ACCEPTED.false in
    let w = c.width-width in
    let h = c.height-height in
    let z = c.clear in
    let size = ready_size a.scene.now m _ _ w.result h.result r w.ensures.0 h.ensures.0 in
    let limits = ready_limits a.scene.now m _ _ w.result h.result r w.ensures.0 h.ensures.0 in
    record {
      accepted_scene = (accepted_scene a.scene.now a.masked r.scene, c.count-n.ensures.0);
      blank = zeroed a.scratch.now z.new.s z.ensures z.auto.s r.space;
      surface_len = (omega (arith, size), limits.0, limits.1);
      mask_for_scene = ready_mask a.scene.now m _ _ w.result h.result r w.ensures.0 h.ensures.0 c.taken-m.result c.taken-m.ensures;
    }

pub accepted-requires : goal.accepted-requires
accepted-requires c =
    let a = c.args in
    let m = mask_of a.masked a.mask.now in
    let r = ready a.scene.now m _ _ _ c.judge_draw-f.ensures c.if-f-ne-ACCEPTED.false in
    let w = c.width-width in
    let h = c.height-height in
    ready_within a.scene.now m _ _ w.result h.result r w.ensures.0 h.ensures.0 (whole w.result h.result) (whole_on w.result h.result)

pub returns : goal.returns
returns c =
    let a = c.args in
    let m = mask_of a.masked a.mask.now in
    let f = c.judge_draw-f in
    let w = c.width-width in
    let h = c.height-height in
    let p = c.draw_scene in
    let done = draw_done a.scene.now m a.surface.now a.scratch.now f.result c.accepted.result p.new.surface _ p.new.scratch w.result h.result
    f.ensures c.if-f-ne-ACCEPTED.false w.ensures.0 h.ensures.0 c.accepted.ensures (taken_bytes m c.taken-m.result c.taken-m.ensures)
    (p.ensures.surface_after ∙ sym (overlay_whole w.result h.result _ a.surface.now)) (p.ensures.scratch_unchanged ∙ c.clear.ensures) in
    record { value = done.0; surface_after = done.1.0; scratch_after = done.1.1 }
