-- Painting the new scene in rectangles that cover the changes turns the old scene's picture into the new one's.
use mathlib.Core.Path.{◌≡◌, refl, sym, ap, ap₂, ◌∙◌}
use mathlib.Core.List.Memᴰ
use mathlib.Core.List.{List, [], ◌∷◌, Memᴰ}
use mathlib.Core.Bool.{true, false, true≢false}
use mathlib.Core.Logic.{⊎_elim}
use Prim.Native.Nat.{ℕ, ◌+◌, ◌*◌, ◌<◌, max}
use native.Mathlib.Omega.{arith}
use lib.ListN.{length}
use lib.IntN.{ℤ}
use Rattle.rect.specs.declared.Rect.{Rect}
use Rattle.rect.specs.Rects.{Inside, inside, whole}
use Rattle.rect.proofs.Laws.{either, inside_yes}
use Rattle.raster.specs.Surface.{raster, pixel_of}
use Rattle.raster.proofs.Pixels.{raster_length, raster_at}
use Rattle.scene.specs.Header.{width_of, height_of, count_of}
use Rattle.scene.proofs.Accepted.{accepted_scene}
use Rattle.engine.specs.Picture.{pixel_at, mask_at, picture}
use Rattle.damage.specs.Damage.{changed_at, box_at, boxes_at, changed_boxes, same_background}
use Rattle.damage.proofs.Members.{upto_has}
use Rattle.damage.proofs.Redraw.{untouched_same}
use Rattle.render.specs.Answers.{Mask, mask_bytes, Accepted, OneSize}
use Rattle.regions.specs.Pixels.{in_any, overlays}
use Rattle.regions.specs.Proposals.{proposed, to_cover}
use Rattle.regions.specs.Answers.{regions_painted}
use Rattle.regions.proofs.Every.{second_true}
use Rattle.regions.proofs.Overlays.{overlays_length, overlays_in, overlays_out, overlays_is}

-- a pixel of one of a list
any_has : (bs : List Rect) (b : Rect) (x y : ℕ) → Memᴰ b bs → Inside b x y → in_any bs x y ≡ true
any_has [] b x y m i = absurd (Memᴰ.not-nil m)
any_has (a ∷ bs) b x y m i =
    ⊎_elim (λ e. rw (inside_yes a x y (rw e at i))) (λ n. rw (any_has bs b x y n i) (second_true (inside a x y))) (Memᴰ.cases_cons m)

-- rectangles that cover what a change asks for
abbrev pub Covering : ℕ → ℕ → List ℕ → List ℕ → List Rect → Type 0
Covering w h old new rs = (x y : ℕ) → in_any (to_cover w h old new) x y ≡ true → in_any rs x y ≡ true

module _ (w h : ℕ) (old new : List ℕ) (rs : List Rect) (c : Covering w h old new rs) where
  -- the boxes, old and new, of every changed draw; or the surface
  pub covers_boxes : same_background old new ≡ true → (i : ℕ) → i < max (count_of old) (count_of new) → changed_at old new i ≡ true → (x y : ℕ)
      → (Inside (box_at w h old i) x y → in_any rs x y ≡ true) × (Inside (box_at w h new i) x y → in_any rs x y ≡ true)
  unfolding to_cover
  covers_boxes same i k t x y =
      let found : (b : Rect) → Memᴰ b (boxes_at w h old new i) → Inside b x y → in_any rs x y ≡ true = λ b e j.
      c x y (rw same (any_has (changed_boxes w h old new) b x y (upto_has (max (count_of old) (count_of new)) (boxes_at w h old new) b i k e) j)) in
      (found (box_at w h old i) (rw t (Memᴰ.head refl)), found (box_at w h new i) (rw t (Memᴰ.tail (Memᴰ.head refl))))

  pub covers_surface : same_background old new ≡ false → (x y : ℕ) → x < w → y < h → in_any rs x y ≡ true
  unfolding to_cover
  covers_surface other x y k l =
      c x y
      (rw other (any_has (whole w h ∷ []) (whole w h) x y (Memᴰ.head refl) (record { left = omega arith; right = k; below = omega arith; above = l })))

  module _ (mask : ℕ → ℕ → ℕ) (bo : length old ≡ 512 * (1 + 4 * count_of old)) (bn : length new ≡ 512 * (1 + 4 * count_of new)) where
    -- outside them both scenes have the same pixels
    kept : (x y : ℕ) → x < w → y < h → in_any rs x y ≡ false → pixel_at old mask x y ≡ pixel_at new mask x y
    kept x y k l o =
        either (same_background old new)
        (λ same.
        untouched_same mask old new w h bo bn same x y k l
        (λ i b t. let held = covers_boxes same i b t x y in (λ j. true≢false (sym (held.0 j) ∙ o), λ j. true≢false (sym (held.1 j) ∙ o))))
        (λ other. absurd (true≢false (sym (covers_surface other x y k l) ∙ o)))

    -- so the new scene's pixels inside them make its picture
    pub cover_right : overlays w h rs (pixel_at new mask) (raster w h (pixel_at old mask)) ≡ raster w h (pixel_at new mask)
    cover_right =
        sym (overlays_is w h rs (pixel_at new mask) (raster w h (pixel_at old mask)) (raster w h (pixel_at new mask)) (raster_length w h (pixel_at new mask))
        (λ x y k l i. raster_at w h (pixel_at new mask) x y k l)
        (λ x y k l o. raster_at w h (pixel_at new mask) x y k l ∙ sym (kept x y k l o) ∙ sym (raster_at w h (pixel_at old mask) x y k l)))

-- ---- what is painted
module _ (new : List ℕ) (m : Mask) (l : List ℤ) (surface : List ℕ) where
  abbrev there : ℕ → ℕ → ℕ
  there = mask_at (width_of new) (mask_bytes m)

  pub painted_length : length (regions_painted new m l surface) ≡ height_of new * (width_of new * 4)
  unfolding regions_painted
  painted_length = overlays_length (width_of new) (height_of new) (proposed l) (pixel_at new there) surface

  pub painted_in : (x y : ℕ) → x < width_of new → y < height_of new → in_any (proposed l) x y ≡ true
      → pixel_of (width_of new) (regions_painted new m l surface) x y ≡ pixel_of (width_of new) (picture new (mask_bytes m)) x y
  unfolding regions_painted picture
  painted_in x y k n i =
      overlays_in (width_of new) (height_of new) (proposed l) (pixel_at new there) surface x y k n i
      ∙ sym (raster_at (width_of new) (height_of new) (pixel_at new there) x y k n)

  pub painted_out : (x y : ℕ) → x < width_of new → y < height_of new → in_any (proposed l) x y ≡ false
      → pixel_of (width_of new) (regions_painted new m l surface) x y ≡ pixel_of (width_of new) surface x y
  unfolding regions_painted
  painted_out x y k n o = overlays_out (width_of new) (height_of new) (proposed l) (pixel_at new there) surface x y k n o

  pub painted_right : (old : List ℕ) → Accepted m old → Accepted m new → OneSize old new → Covering (width_of new) (height_of new) old new (proposed l)
      → surface ≡ picture old (mask_bytes m) → regions_painted new m l surface ≡ picture new (mask_bytes m)
  unfolding regions_painted picture
  painted_right old o n size c e =
      ap (overlays (width_of new) (height_of new) (proposed l) (pixel_at new there))
      (e ∙ ap₂ (λ (w h : ℕ). raster w h (pixel_at old (mask_at w (mask_bytes m)))) size.width size.height)
      ∙ cover_right (width_of new) (height_of new) old new (proposed l) c there (accepted_scene old m.lent o).bytes (accepted_scene new m.lent n).bytes
