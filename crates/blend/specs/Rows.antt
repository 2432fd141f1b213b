-- The step at every pixel of a part of a row, as the row functions promise it: the pixels are taken as they stand, since `engine` lends rows without
-- stray bytes. A reviewer of the paper need not read it: `engine` speaks of pixels.
use Rattle.std.specs.Prelude.{List, ℕ, ◌≤◌, ◌<◌, length, get_or}
use Rattle.color.specs.declared.Pixel.{Pixel}
use Rattle.raster.specs.Surface.{run, pixel_in}
use Rattle.blend.specs.PorterDuff.{composite_on}

-- each byte is a k of 0 to 16
abbrev pub Coverage : List ℕ → Type 0
Coverage ks = (i : ℕ) → i < length ks → get_or ks i 0 ≤ 16

-- of the ith pixel that stands in d, under the ith k and the mask's byte for it, with the ith pixel of the paint
abbrev pub composite_row : ℕ → List ℕ → (ℕ → ℕ) → (ℕ → Pixel) → List ℕ → List ℕ
composite_row mode ks mask paint d = run (length ks) (λ i. composite_on mode (get_or ks i 0) (mask i) (paint i) (pixel_in d i))
