-- Rules of pixels, as tests.
--     every n f           f 0, .., f (n - 1) all hold
--     each f s            f holds of each of a list
--     every_pixel b f      f x y holds at each pixel of the rectangle b
--     apart a b           no pixel of a is in b
--     in_any rs x y        the pixel (x, y) is in one of the rectangles rs
--     covers rs b         each pixel of b is in one of them
--     overlays w h rs f s s, of 4·w·h bytes, with the pixels f x y in the rectangles rs
use Rattle.std.specs.Prelude.{ℕ, zero, suc, ◌+◌, ◌-◌, List, [], ◌∷◌, Bool, true, false, cond, not, ◌&&◌, ◌||◌}
use Rattle.color.specs.declared.Pixel.{Pixel}
use Rattle.rect.specs.declared.Rect.{Rect}
use Rattle.rect.specs.Rects.{inside}
use Rattle.raster.specs.Surface.{raster, pixel_of}

abbrev pub every : ℕ → (ℕ → Bool) → Bool
every zero f = true
every (suc n) f = every n f && f n

module _ {A : Type 0} where
  abbrev pub each : (A → Bool) → List A → Bool
  each f [] = true
  each f (a ∷ s) = f a && each f s

unfoldable pub every_pixel : Rect → (ℕ → ℕ → Bool) → Bool
every_pixel b f = every (b.x1 - b.x0) (λ i. every (b.y1 - b.y0) (λ j. f (b.x0 + i) (b.y0 + j)))

unfoldable pub apart : Rect → Rect → Bool
apart a b = every_pixel a (λ x y. not (inside b x y))

abbrev pub in_any : List Rect → ℕ → ℕ → Bool
in_any [] x y = false
in_any (a ∷ rs) x y = inside a x y || in_any rs x y

unfoldable pub covers : List Rect → Rect → Bool
covers rs b = every_pixel b (in_any rs)

unfoldable pub overlays : ℕ → ℕ → List Rect → (ℕ → ℕ → Pixel) → List ℕ → List ℕ
overlays w h rs f s = raster w h (λ x y. cond (in_any rs x y) (f x y) (pixel_of w s x y))
