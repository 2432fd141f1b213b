-- Demands 1, 2 and 3, as theorems on the definitions that the contracts of `draw` and `redraw` cite.
use mathlib.Core.Path.{◌≡◌, sym, ap, ap₂, ◌∙◌}
use mathlib.Core.List.{List}
use mathlib.Core.Bool.{true, false}
use Prim.Native.Nat.{ℕ, ◌+◌, ◌*◌, ◌≤◌, ◌<◌, max}
use native.Mathlib.Omega.{arith}
use lib.IntN.{ℤ, pos}
use lib.ListN.{length, replicate}
use Rattle.rect.specs.declared.Rect.{Rect}
use Rattle.rect.specs.Rects.{Inside, Holds, On, none, whole, empty_of}
use Rattle.raster.specs.Surface.{raster, overlay, pixel_of}
use Rattle.raster.proofs.Pixels.{raster_length, raster_at}
use Rattle.raster.proofs.Overlay.{overlay_length, overlay_in, overlay_out}
use Rattle.scene.specs.Header.{width_of, height_of, count_of}
use Rattle.scene.proofs.Accepted.{accepted_scene}
use Rattle.engine.specs.Picture.{pixel_at, mask_at, picture}
use Rattle.damage.specs.Damage.{changed_at, box_at, same_background, damage}
use Rattle.damage.proofs.Changes.{damage_whole}
use Rattle.damage.proofs.Smallest.{damage_holds, damage_least, damage_none, damage_on}
use Rattle.damage.proofs.Redraw.{redraw_right}
use Rattle.render.specs.Answers.{draw_refusal, redraw_refusal, accepted_answer}
use Rattle.render.specs.Answers.{draw_answer, draw_surface, draw_scratch, redraw_answer, redraw_surface, redraw_scratch}
use Rattle.render.specs.Answers.{Mask, mask_bytes, scratch_numbers, Accepted, OneSize, Lent, HoldsChanges}
use Rattle.render.proofs.Refusals.{scene_passes, mask_right, lent_passes, size_passes, draw_ready, redraw_ready}
use Rattle.render.proofs.Results.{chosen, not_chosen, answer_refused, answer_accepted}

-- ---- DEMAND 1: a refused call leaves surface and scratch as they were; an accepted one leaves the scratch all zero
module _ (s : List ℕ) (m : Mask) (surface : List ℕ) (scratch : List ℤ) where
  pub refused_draw_changes_nothing : ((draw_answer s m (length surface) (length scratch)).code ≡ 0 → ⊥)
      → (draw_surface s m surface (length scratch) ≡ surface) × (draw_scratch s m (length surface) scratch ≡ scratch)
  refused_draw_changes_nothing n =
      let f = draw_refusal s m (length surface) (length scratch) in
      let r = answer_refused f _ n in
      (not_chosen f _ _ r, not_chosen f _ _ r)

  pub accepted_draw_clears_scratch : (draw_answer s m (length surface) (length scratch)).code ≡ 0
      → draw_scratch s m (length surface) scratch ≡ replicate (length scratch) (pos 0)
  accepted_draw_clears_scratch e =
      let f = draw_refusal s m (length surface) (length scratch) in
      chosen f _ _ (answer_accepted f _ e)

module _ (old new : List ℕ) (m : Mask) (surface : List ℕ) (scratch : List ℤ) where
  pub refused_redraw_changes_nothing : ((redraw_answer old new m (length surface) (length scratch)).code ≡ 0 → ⊥)
      → (redraw_surface old new m surface (length scratch) ≡ surface) × (redraw_scratch old new m (length surface) scratch ≡ scratch)
  refused_redraw_changes_nothing n =
      let f = redraw_refusal old new m (length surface) (length scratch) in
      let r = answer_refused f _ n in
      (not_chosen f _ _ r, not_chosen f _ _ r)

  pub accepted_redraw_clears_scratch : (redraw_answer old new m (length surface) (length scratch)).code ≡ 0
      → redraw_scratch old new m (length surface) scratch ≡ replicate (length scratch) (pos 0)
  accepted_redraw_clears_scratch e =
      let f = redraw_refusal old new m (length surface) (length scratch) in
      chosen f _ _ (answer_accepted f _ e)

-- ---- DEMAND 2: a full drawing is accepted exactly if the scene is and enough is lent; it reports the whole surface and leaves the picture
module _ (s : List ℕ) (m : Mask) (surface : List ℕ) (scratch : ℕ) where
  pub only_good_draws_accepted : (draw_answer s m (length surface) scratch).code ≡ 0 → Accepted m s × Lent s m surface scratch
  only_good_draws_accepted e =
      let f = draw_refusal s m (length surface) scratch in
      let r = draw_ready s m (length surface) scratch (answer_accepted f _ e) in
      (r.scene, record { size = r.size; mask = r.mask; space = r.space })

  module _ (a : Accepted m s) (lent : Lent s m surface scratch) where
    draw_passes : (draw_refusal s m (length surface) scratch).code ≡ 0
    unfolding draw_refusal
    draw_passes =
        rw (
          scene_passes m.lent s 0 a,
          lent_passes (width_of s) (height_of s) m (length surface) scratch lent.size (mask_right m _ lent.mask)
              lent.space,
        )

    pub full_drawing_accepted : draw_answer s m (length surface) scratch ≡ accepted_answer (whole (width_of s) (height_of s))
    full_drawing_accepted = chosen (draw_refusal s m (length surface) scratch) _ _ draw_passes

    pub full_drawing_leaves_picture : draw_surface s m surface scratch ≡ picture s (mask_bytes m)
    full_drawing_leaves_picture = chosen (draw_refusal s m (length surface) scratch) _ _ draw_passes

-- ---- DEMAND 3: the area, for any two scenes
module _ (old new : List ℕ) where
  -- it is the whole surface where the background differs
  pub area_whole_if_background_differs : same_background old new ≡ false → damage old new ≡ whole (width_of new) (height_of new)
  area_whole_if_background_differs = damage_whole (width_of new) (height_of new) old new

  -- else it holds the boxes, old and new, of every changed draw, and every other rectangle that holds them holds it
  pub area_holds_changes : same_background old new ≡ true → HoldsChanges old new (damage old new)
  area_holds_changes = damage_holds (width_of new) (height_of new) old new

  pub area_is_smallest : same_background old new ≡ true → (r : Rect) → HoldsChanges old new r → Holds r (damage old new)
  area_is_smallest = damage_least (width_of new) (height_of new) old new

  -- with no such box that has a pixel it is 0, 0, 0, 0
  pub area_none_if_no_box : same_background old new ≡ true
      → ((i : ℕ) → i < max (count_of old) (count_of new) → changed_at old new i ≡ true
      → (empty_of (box_at (width_of new) (height_of new) old i) ≡ true) × (empty_of (box_at (width_of new) (height_of new) new i) ≡ true))
      → damage old new ≡ none
  area_none_if_no_box = damage_none (width_of new) (height_of new) old new

  pub area_on_surface : On (width_of new) (height_of new) (damage old new)
  area_on_surface = damage_on (width_of new) (height_of new) old new

-- ---- DEMAND 3: the redraw is accepted exactly if both scenes are, have one size, and enough is lent
accepted_length : (m : Mask) (s : List ℕ) → Accepted m s → length s ≡ 512 * (1 + 4 * count_of s)
accepted_length m s a = (accepted_scene s m.lent a).bytes

module _ (old new : List ℕ) (m : Mask) (surface : List ℕ) (scratch : ℕ) where
  pub only_good_redraws_accepted : (redraw_answer old new m (length surface) scratch).code ≡ 0
      → (Accepted m old × Accepted m new) × (OneSize old new × Lent new m surface scratch)
  only_good_redraws_accepted e =
      let f = redraw_refusal old new m (length surface) scratch in
      let r = redraw_ready old new m (length surface) scratch (answer_accepted f _ e) in
      let lent : Lent new m surface scratch = record { size = r.after.size; mask = r.after.mask; space = r.after.space } in
      ((r.before, r.after.scene), (record { width = r.width; height = r.height }, lent))

  module _ (o : Accepted m old) (n : Accepted m new) (size : OneSize old new) (lent : Lent new m surface scratch) where
    -- m at a pixel
    abbrev there : ℕ → ℕ → ℕ
    there = mask_at (width_of new) (mask_bytes m)

    redraw_passes : (redraw_refusal old new m (length surface) scratch).code ≡ 0
    unfolding redraw_refusal
    redraw_passes =
        rw (
          scene_passes m.lent old 0 o,
          scene_passes m.lent new 1 n,
          size_passes old new size.width size.height,
          lent_passes (width_of new) (height_of new) m (length surface) scratch lent.size (mask_right m _ lent.mask) lent.space,
        )

    -- it reports the area
    pub redraw_accepted : redraw_answer old new m (length surface) scratch ≡ accepted_answer (damage old new)
    redraw_accepted = chosen (redraw_refusal old new m (length surface) scratch) _ _ redraw_passes

    leaves : redraw_surface old new m surface scratch ≡ overlay (width_of new) (height_of new) (damage old new) (pixel_at new there) surface
    leaves = chosen (redraw_refusal old new m (length surface) scratch) _ _ redraw_passes

    -- the surface keeps its length; inside the area every pixel is the second scene's full drawing, outside it every pixel is as before
    pub redraw_keeps_length : length (redraw_surface old new m surface scratch) ≡ length surface
    redraw_keeps_length =
        ap length leaves ∙ overlay_length (width_of new) (height_of new) (damage old new) (pixel_at new there) surface ∙ rw lent.size (omega arith)

    pub inside_is_new : (x y : ℕ) → x < width_of new → y < height_of new → Inside (damage old new) x y
        → pixel_of (width_of new) (redraw_surface old new m surface scratch) x y ≡ pixel_of (width_of new) (picture new (mask_bytes m)) x y
    unfolding picture
    inside_is_new x y k l i =
        ap (λ (s : List ℕ). pixel_of (width_of new) s x y) leaves
        ∙ overlay_in (width_of new) (height_of new) (damage old new) (pixel_at new there) surface x y k l i
        ∙ sym (raster_at (width_of new) (height_of new) (pixel_at new there) x y k l)

    pub outside_is_kept : (x y : ℕ) → x < width_of new → y < height_of new → (Inside (damage old new) x y → ⊥)
        → pixel_of (width_of new) (redraw_surface old new m surface scratch) x y ≡ pixel_of (width_of new) surface x y
    outside_is_kept x y k l i =
        ap (λ (s : List ℕ). pixel_of (width_of new) s x y) leaves
        ∙ overlay_out (width_of new) (height_of new) (damage old new) (pixel_at new there) surface x y k l i

    -- so a surface that held the first scene's full drawing holds the second's in every byte
    pub redraw_makes_picture : surface ≡ picture old (mask_bytes m) → redraw_surface old new m surface scratch ≡ picture new (mask_bytes m)
    unfolding picture
    redraw_makes_picture e =
        leaves
        ∙ ap (overlay (width_of new) (height_of new) (damage old new) (pixel_at new there))
        (e ∙ ap₂ (λ (w h : ℕ). raster w h (pixel_at old (mask_at w (mask_bytes m)))) size.width size.height)
        ∙ redraw_right there old new (width_of new) (height_of new) (accepted_length m old o) (accepted_length m new n)

-- the same of the calls: redrawing after a full drawing of the old scene leaves what a full drawing of the new one leaves, on whatever surfaces, with
-- one mask for the three or none
pub quick_is_full : (old new : List ℕ) (m : Mask) (first second : List ℕ) (scratch1 scratch2 scratch3 : ℕ) → Accepted m old → Accepted m new → OneSize old new
    → Lent old m first scratch1 → scratch_numbers ≤ scratch2 → Lent new m second scratch3
    → redraw_surface old new m (draw_surface old m first scratch1) scratch2 ≡ draw_surface new m second scratch3
unfolding picture
quick_is_full old new m first second scratch1 scratch2 scratch3 o n size lent space full =
    let drawn : draw_surface old m first scratch1 ≡ picture old (mask_bytes m) = full_drawing_leaves_picture old m first scratch1 o lent in
    let fits : length (draw_surface old m first scratch1) ≡ 4 * (width_of new * height_of new) =
    ap length drawn ∙ raster_length (width_of old) (height_of old) (pixel_at old (mask_at (width_of old) (mask_bytes m)))
    ∙ rw (size.width, size.height) (omega arith) in
    redraw_makes_picture old new m (draw_surface old m first scratch1) scratch2 o n size (record { size = fits; mask = full.mask; space = space }) drawn
    ∙ sym (full_drawing_leaves_picture new m second scratch3 n full)
