use mathlib.Core.Path.{◌≡◌, refl, ap, subst, sym, ◌∙◌}
use Prim.Native.Nat.{ℕ, ◌/◌}
use native.Mathlib.Omega.{arith}
use lib.ListN.{length}
use Rattle.lists.specs.Lists.{tab}
use Rattle.engine.specs.Picture.{pixel_at, mask_at}
use Rattle.engine.specs.Rows.{Blank}
use Rattle.regions.specs.Pixels.{overlays}
use Rattle.regions.specs.Proposals.{proposed_at}
use Rattle.regions.proofs.Overlays.{overlays_none}
use Rattle.regions.proofs.Turns.{painted_turn}
use Rattle.regions.proofs.painting.paint_regions.Goals as goal

pub loop-k-init : goal.loop-k-init
loop-k-init c =
    let a = c.args in
    (refl, refl, overlays_none a.width a.height (pixel_at a.scene.now (mask_at a.width a.mask.now)) a.surface.now c.requires.surface_len.0)

pub paint_area-requires : goal.paint_area-requires
paint_area-requires c =
    let p = c.requires in
    let l = c.loop-k in
    let on = p.all_on l.k (omega arith) in
    record {
      accepted_scene = (p.accepted_scene.0, c.count-count.ensures.0);
      blank = subst Blank (sym l.invariant.1) p.accepted_scene.1;
      area =
          ((l.invariant.0 ∙ p.surface_len.0, (rw c.rect_at-a.ensures on, p.surface_len.1)), p.mask_for_scene);
    }

pub loop-k-preserved : goal.loop-k-preserved
loop-k-preserved c =
    let a = c.args in
    let l = c.loop-k in
    let e = c.paint_area in (
      e.auto.surface ∙ l.invariant.0,
      e.ensures.scratch_unchanged ∙ l.invariant.1,
      painted_turn (proposed_at a.rectangles.now) l.k a.width a.height (pixel_at a.scene.now (mask_at a.width a.mask.now)) a.surface.now l.surface _
          c.rect_at-a.result
          l.invariant.2 c.rect_at-a.ensures e.ensures.surface_after,
    )

pub shape_of-surface : goal.shape_of-surface
shape_of-surface c =
    c.loop-k.invariant.0

pub shape_of-scratch : goal.shape_of-scratch
shape_of-scratch c =
    ap length c.loop-k.invariant.1

pub returns : goal.returns
returns c =
    let l = c.loop-k in
    let a = c.args in
    let last : l.k ≡ length a.rectangles.now / 4 = omega arith in
    record {
      scratch_unchanged = l.invariant.1;
      surface_after = l.invariant.2 ∙ ap
          (λ (k : ℕ). overlays a.width a.height (tab k (proposed_at a.rectangles.now)) (pixel_at a.scene.now (mask_at a.width a.mask.now)) a.surface.now) last;
    }
