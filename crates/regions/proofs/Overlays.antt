-- The laws of `overlays`: what it holds at a pixel, none, and one rectangle more.
use mathlib.Core.Path.{◌≡◌, refl, sym, ◌∙◌}
use mathlib.Core.Bool.{true, false, cond, ◌||◌, false≢true}
use mathlib.Core.List.{List, [], ◌∷◌, ◌++◌}
use Prim.Native.Nat.{ℕ, ◌*◌, ◌<◌}
use lib.ListN.{length}
use Rattle.rect.specs.declared.Rect.{Rect}
use Rattle.rect.specs.Rects.{inside}
use Rattle.rect.proofs.Laws.{either, neither, inside_true, inside_false}
use Rattle.color.specs.declared.Pixel.{Pixel}
use Rattle.raster.specs.Surface.{pixel_of, overlay}
use Rattle.raster.proofs.Pixels.{raster_length, raster_at, surface_same}
use Rattle.raster.proofs.Overlay.{overlay_length, overlay_in, overlay_out}
use Rattle.regions.specs.Pixels.{in_any, overlays}
use Rattle.regions.proofs.Every.{any_more, or_none}

module _ (w h : ℕ) (rs : List Rect) (f : ℕ → ℕ → Pixel) (s : List ℕ) where
  pub overlays_length : length (overlays w h rs f s) ≡ h * (w * 4)
  unfolding overlays
  overlays_length = raster_length w h (λ x y. cond (in_any rs x y) (f x y) (pixel_of w s x y))

  -- at a pixel in one of them, and at another
  pub overlays_in : (x y : ℕ) → x < w → y < h → in_any rs x y ≡ true → pixel_of w (overlays w h rs f s) x y ≡ f x y
  unfolding overlays
  overlays_in x y k l i = raster_at w h (λ x y. cond (in_any rs x y) (f x y) (pixel_of w s x y)) x y k l ∙ rw i

  pub overlays_out : (x y : ℕ) → x < w → y < h → in_any rs x y ≡ false → pixel_of w (overlays w h rs f s) x y ≡ pixel_of w s x y
  unfolding overlays
  overlays_out x y k l o = raster_at w h (λ x y. cond (in_any rs x y) (f x y) (pixel_of w s x y)) x y k l ∙ rw o

  -- a list with these pixels is it
  pub overlays_is : (t : List ℕ) → length t ≡ h * (w * 4)
      → ((x y : ℕ) → x < w → y < h → in_any rs x y ≡ true → pixel_of w t x y ≡ f x y)
      → ((x y : ℕ) → x < w → y < h → in_any rs x y ≡ false → pixel_of w t x y ≡ pixel_of w s x y)
      → t ≡ overlays w h rs f s
  overlays_is t e p q =
      surface_same w h t (overlays w h rs f s) e overlays_length
      (λ x y k l. either (in_any rs x y) (λ i. p x y k l i ∙ sym (overlays_in x y k l i)) (λ o. q x y k l o ∙ sym (overlays_out x y k l o)))

pub overlays_none : (w h : ℕ) (f : ℕ → ℕ → Pixel) (s : List ℕ) → length s ≡ h * (w * 4) → s ≡ overlays w h [] f s
overlays_none w h f s e = overlays_is w h [] f s s e (λ x y k l i. absurd (false≢true i)) (λ x y k l o. refl)

-- one more, painted over them
pub overlays_more : (w h : ℕ) (rs : List Rect) (a : Rect) (f : ℕ → ℕ → Pixel) (s : List ℕ)
    → overlay w h a f (overlays w h rs f s) ≡ overlays w h (rs ++ (a ∷ [])) f s
overlays_more w h rs a f s =
    let before = overlays w h rs f s in
    overlays_is w h (rs ++ (a ∷ [])) f s (overlay w h a f before) (overlay_length w h a f before)
    (λ x y k l i.
    either (inside a x y) (λ e. overlay_in w h a f before x y k l (inside_true a x y e))
    (λ e. overlay_out w h a f before x y k l (inside_false a x y e) ∙ overlays_in w h rs f s x y k l (sym (last x y e) ∙ i)))
    (λ x y k l o.
    let n = neither (in_any rs x y) (inside a x y || false) (sym (any_more rs (a ∷ []) x y) ∙ o) in
    overlay_out w h a f before x y k l (inside_false a x y (sym (or_none (inside a x y)) ∙ n.1)) ∙ overlays_out w h rs f s x y k l n.0)
  where
    last : (x y : ℕ) → inside a x y ≡ false → in_any (rs ++ (a ∷ [])) x y ≡ in_any rs x y
    last x y e = any_more rs (a ∷ []) x y ∙ rw e (or_none (in_any rs x y))
