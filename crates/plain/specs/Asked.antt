-- What the functions compute of a draw that was taken apart. A reviewer of the paper need not read it.
use Rattle.std.specs.Prelude.{ℕ, ◌*◌, ◌/◌, ◌%◌, List, ℤ}
use Rattle.color.specs.declared.Pixel.{Pixel}
use Rattle.raster.specs.Surface.{run, pixel_in}
use Rattle.blend.specs.PorterDuff.{composite}
use Rattle.path.specs.declared.Edge.{Edge}
use Rattle.engine.specs.declared.Style.{Style}
use Rattle.engine.specs.Rows.{coverage_with, shade_at}

abbrev pub edge : ℤ → ℤ → ℤ → ℤ → Edge
edge a b c d = record { x0 = a; y0 = b; x1 = c; y1 = d }

-- what is stored at the pixel (x, y), which holds q, with the mask's byte m
unfoldable pub step_at : Style → List Edge → List ℕ → List ℕ → ℕ → ℕ → ℕ → Pixel → Pixel
step_at s es scissors ramp m x y q = composite s.mode (coverage_with s es scissors x y) m (shade_at s.shade ramp x y) q

-- s, of w by h pixels, with g done at every pixel
abbrev pub pixelwise : ℕ → ℕ → (ℕ → ℕ → Pixel → Pixel) → List ℕ → List ℕ
pixelwise w h g s = run (h * w) (λ i. g (i % w) (i / w) (pixel_in s i))
