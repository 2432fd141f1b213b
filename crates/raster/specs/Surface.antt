-- A surface of w by h pixels: rows one after the other, row 0 first and lowest, four bytes to a pixel: R, G, B, A.
--     run n f            the bytes of the pixels f 0, .., f (n - 1)
--     raster w h f       the bytes of the pixels f x y, row 0 first
--     pixel_of w s x y    the pixel (x, y) that stands in s
--     overlay w h a f s  s, of 4·w·h bytes, with the pixels f x y in the rectangle a
use Rattle.std.specs.Prelude.{List, [], ◌∷◌, cond, ℕ, ◌+◌, ◌*◌, get_or}
use Rattle.lists.specs.Lists.{upto}
use Rattle.rect.specs.declared.Rect.{Rect}
use Rattle.rect.specs.Rects.{inside}
use Rattle.color.specs.declared.Pixel.{Pixel}

abbrev pub bytes_of : Pixel → List ℕ
bytes_of p = p.r ∷ p.g ∷ p.b ∷ p.a ∷ []

abbrev pub run : ℕ → (ℕ → Pixel) → List ℕ
run n f = upto n (λ i. bytes_of (f i))

abbrev pub raster : ℕ → ℕ → (ℕ → ℕ → Pixel) → List ℕ
raster w h f = upto h (λ y. run w (λ x. f x y))

-- the ith pixel of a list of bytes
abbrev pub pixel_in : List ℕ → ℕ → Pixel
pixel_in s i = record { r = get_or s (i * 4) 0; g = get_or s (i * 4 + 1) 0; b = get_or s (i * 4 + 2) 0; a = get_or s (i * 4 + 3) 0 }

abbrev pub pixel_of : ℕ → List ℕ → ℕ → ℕ → Pixel
pixel_of w s x y = pixel_in s (y * w + x)

unfoldable pub overlay : ℕ → ℕ → Rect → (ℕ → ℕ → Pixel) → List ℕ → List ℕ
overlay w h a f s = raster w h (λ x y. cond (inside a x y) (f x y) (pixel_of w s x y))
