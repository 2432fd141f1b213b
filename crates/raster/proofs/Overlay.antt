-- The laws of `overlay`: what it holds at a pixel, that this settles it, and one after another.
use mathlib.Core.Path.{◌≡◌, refl, sym, ap, ◌∙◌}
use mathlib.Core.Bool.{cond}
use mathlib.Core.List.{List}
use Prim.Native.Nat.{ℕ, ◌*◌, ◌≤◌, ◌<◌}
use native.Mathlib.Omega.{arith}
use lib.Dec.{ltb}
use borrow.Author.Tests.{ltb-true, ltb-false}
use lib.ListN.{length}
use Rattle.rect.specs.declared.Rect.{Rect}
use Rattle.rect.specs.Rects.{Inside, inside, whole, meet_of}
use Rattle.rect.proofs.Laws.{either, inside_yes, inside_no, in_or_out, meet_in, meet_left, meet_right}
use Rattle.color.specs.declared.Pixel.{Pixel}
use Rattle.raster.specs.Surface.{raster, pixel_of, overlay}
use Rattle.raster.proofs.Pixels.{raster_length, raster_at, surface_same}

module _ (w h : ℕ) (a : Rect) (f : ℕ → ℕ → Pixel) (s : List ℕ) where
  pub overlay_length : length (overlay w h a f s) ≡ h * (w * 4)
  unfolding overlay
  overlay_length = raster_length w h (λ x y. cond (inside a x y) (f x y) (pixel_of w s x y))

  -- at a pixel in a, and at another
  pub overlay_in : (x y : ℕ) → x < w → y < h → Inside a x y → pixel_of w (overlay w h a f s) x y ≡ f x y
  unfolding overlay
  overlay_in x y k l i = raster_at w h (λ x y. cond (inside a x y) (f x y) (pixel_of w s x y)) x y k l ∙ rw (inside_yes a x y i)

  pub overlay_out : (x y : ℕ) → x < w → y < h → (Inside a x y → ⊥) → pixel_of w (overlay w h a f s) x y ≡ pixel_of w s x y
  unfolding overlay
  overlay_out x y k l o = raster_at w h (λ x y. cond (inside a x y) (f x y) (pixel_of w s x y)) x y k l ∙ rw (inside_no a x y o)

  -- a list with these pixels is the overlay
  pub overlay_is : (t : List ℕ) → length t ≡ h * (w * 4)
      → ((x y : ℕ) → x < w → y < h → Inside a x y → pixel_of w t x y ≡ f x y)
      → ((x y : ℕ) → x < w → y < h → (Inside a x y → ⊥) → pixel_of w t x y ≡ pixel_of w s x y)
      → t ≡ overlay w h a f s
  overlay_is t e p q =
      surface_same w h t (overlay w h a f s) e overlay_length
      (λ x y k l. in_or_out a x y (λ i. p x y k l i ∙ sym (overlay_in x y k l i)) (λ o. q x y k l o ∙ sym (overlay_out x y k l o)))

-- an empty rectangle changes nothing, the whole surface everything
pub overlay_none : (w h : ℕ) (a : Rect) (f : ℕ → ℕ → Pixel) (s : List ℕ) → length s ≡ h * (w * 4) → ((x y : ℕ) → Inside a x y → ⊥) → s ≡ overlay w h a f s
overlay_none w h a f s e o = overlay_is w h a f s s e (λ x y k l i. absurd (o x y i)) (λ x y k l n. refl)

pub overlay_whole : (w h : ℕ) (f : ℕ → ℕ → Pixel) (s : List ℕ) → overlay w h (whole w h) f s ≡ raster w h f
overlay_whole w h f s =
    surface_same w h (overlay w h (whole w h) f s) (raster w h f) (overlay_length w h (whole w h) f s) (raster_length w h f)
    (λ x y k l. overlay_in w h (whole w h) f s x y k l (record { left = omega arith; right = k; below = omega arith; above = l })
    ∙ sym (raster_at w h f x y k l))

-- less, or not
pub less_or : {C : Type 0} (m n : ℕ) → (m < n → C) → (n ≤ m → C) → C
less_or m n f g = either (ltb m n) (λ e. f (ltb-true m n e)) (λ e. g (ltb-false m n e))

-- ---- one overlay after another, where each pixel is made from what stood there by g
module _ (w h : ℕ) (a : Rect) (g : ℕ → ℕ → Pixel → Pixel) where
  pub overlay_then : (f : ℕ → ℕ → Pixel) (s t d : List ℕ) → s ≡ overlay w h a f d → t ≡ overlay w h a (λ x y. g x y (pixel_of w s x y)) s
      → t ≡ overlay w h a (λ x y. g x y (f x y)) d
  overlay_then f s t d o u =
      overlay_is w h a (λ x y. g x y (f x y)) d t (ap length u ∙ overlay_length w h a (λ x y. g x y (pixel_of w s x y)) s)
      (λ x y k l i.
      let e : pixel_of w s x y ≡ f x y = rw o (overlay_in w h a f d x y k l i) in
      let e2 : pixel_of w t x y ≡ g x y (pixel_of w s x y) = rw u (overlay_in w h a (λ x y. g x y (pixel_of w s x y)) s x y k l i) in
      e2 ∙ ap (g x y) e)
      (λ x y k l i.
      let e : pixel_of w s x y ≡ pixel_of w d x y = rw o (overlay_out w h a f d x y k l i) in
      let e2 : pixel_of w t x y ≡ pixel_of w s x y = rw u (overlay_out w h a (λ x y. g x y (pixel_of w s x y)) s x y k l i) in
      e2 ∙ e)

  -- where g changes nothing outside b, the pixels of both are enough
  pub overlay_skip : (b : Rect) (s t : List ℕ) → ((x y : ℕ) (p : Pixel) → x < w → y < h → (Inside b x y → ⊥) → g x y p ≡ p)
      → t ≡ overlay w h (meet_of a b) (λ x y. g x y (pixel_of w s x y)) s → t ≡ overlay w h a (λ x y. g x y (pixel_of w s x y)) s
  overlay_skip b s t n u =
      let f : ℕ → ℕ → Pixel = λ x y. g x y (pixel_of w s x y) in
      overlay_is w h a f s t (ap length u ∙ overlay_length w h (meet_of a b) f s)
      (λ x y k l i.
      in_or_out b x y
      (λ j. rw u (overlay_in w h (meet_of a b) f s x y k l (meet_in a b x y i j)))
      (λ j.
      let e : pixel_of w t x y ≡ pixel_of w s x y = rw u (overlay_out w h (meet_of a b) f s x y k l (λ v. j (meet_right a b x y v))) in
      e ∙ sym (n x y (pixel_of w s x y) k l j)))
      (λ x y k l i. rw u (overlay_out w h (meet_of a b) f s x y k l (λ v. i (meet_left a b x y v))))

-- the same pixels in a
pub overlay_same : (w h : ℕ) (a : Rect) (f g : ℕ → ℕ → Pixel) (s : List ℕ) → ((x y : ℕ) → x < w → y < h → Inside a x y → f x y ≡ g x y)
    → overlay w h a f s ≡ overlay w h a g s
overlay_same w h a f g s e =
    overlay_is w h a g s (overlay w h a f s) (overlay_length w h a f s)
    (λ x y k l i. overlay_in w h a f s x y k l i ∙ e x y k l i)
    (λ x y k l i. overlay_out w h a f s x y k l i)

-- the pixels that stand there
pub overlay_keep : (w h : ℕ) (a : Rect) (s : List ℕ) → length s ≡ h * (w * 4) → s ≡ overlay w h a (pixel_of w s) s
overlay_keep w h a s e = overlay_is w h a (pixel_of w s) s s e (λ x y k l i. refl) (λ x y k l i. refl)
