-- The drawing by paper 01's step, which reads a destination as it stands. Kept for one theorem, that paper 02's P2 changes no picture
-- (proofs/Unclamped.antt); by that theorem the rows are drawn in this way, and no promise to a caller outside cites it.
use Rattle.std.specs.Prelude.{ℕ}
use mathlib.Core.List.{List, foldl}
use Rattle.color.specs.declared.Pixel.{Pixel}
use Rattle.color.specs.Channels.{premultiplied}
use Rattle.raster.specs.Surface.{raster}
use Rattle.blend.specs.PorterDuff.{composite_on}
use Rattle.path.specs.declared.Edge.{Edge}
use Rattle.scene.specs.Header.{width_of, height_of, count_of, edition_of, background_of}
use Rattle.scene.specs.Fields.{blend_of}
use Rattle.engine.specs.Picture.{draw_edges, coverage_of, draw_paint, draw_mask, first_draws, mask_at}

unfoldable pub unclamped_of : List Edge → List ℕ → (ℕ → ℕ → ℕ) → ℕ → ℕ → Pixel → Pixel
unclamped_of es d mask x y p = composite_on (blend_of d) (coverage_of es d x y) (draw_mask d mask x y) (draw_paint d x y) p

abbrev pub unclamped_step : ℕ → List ℕ → (ℕ → ℕ → ℕ) → ℕ → ℕ → Pixel → Pixel
unclamped_step edition d = unclamped_of (draw_edges edition d) d

abbrev pub unclamped_all : ℕ → List (List ℕ) → (ℕ → ℕ → ℕ) → ℕ → ℕ → Pixel → Pixel
unclamped_all edition ds mask x y p = foldl (λ q d. unclamped_step edition d mask x y q) p ds

unfoldable pub unclamped_picture : List ℕ → List ℕ → List ℕ
unclamped_picture s mask =
    raster (width_of s) (height_of s)
    (λ x y. unclamped_all (edition_of s) (first_draws s (count_of s)) (mask_at (width_of s) mask) x y (premultiplied (background_of s)))
