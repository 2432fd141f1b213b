-- The picture of a scene under a mask, pixel by pixel: the premultiplied background, and every draw's step in order ("Coverage and blending";
-- paper 02, P6 and P10).
use Rattle.std.specs.Prelude.{ℕ, ◌+◌, ◌*◌, cond, get_or}
use mathlib.Core.List.{List, foldl}
use Rattle.lists.specs.Lists.{tab}
use Rattle.color.specs.declared.Pixel.{Pixel}
use Rattle.color.specs.Channels.{premultiplied}
use Rattle.raster.specs.Surface.{raster}
use Rattle.blend.specs.PorterDuff.{composite}
use Rattle.paint.specs.Paints.{paint_at}
use Rattle.path.specs.declared.Edge.{Edge}
use Rattle.path.specs.Matrices.{fixed_matrix}
use Rattle.path.specs.Curves.{path_edges}
use Rattle.coverage.specs.Winding.{coverage}
use Rattle.coverage.specs.Scissors.{scissored}
use Rattle.transform.specs.Transforms.{fixed_transform, transformed}
use Rattle.scene.specs.Blocks.{draw_of}
use Rattle.scene.specs.Header.{width_of, height_of, count_of, edition_of, background_of}
use Rattle.scene.specs.Fields.{matrix_of, segments_of, coordinates_of, segment_count, scissoring, scissors_of, scissor_count, non_zero_rule}
use Rattle.scene.specs.Fields.{paint_of, spread_of, ramp_premultiplied, uses_mask, transforms, transform_of, stops_of, stop_count, blend_of}

-- ---- one draw, by its 2,032 bytes d; where its path lies in them depends on the scene's edition
unfoldable pub draw_edges : ℕ → List ℕ → List Edge
draw_edges edition d = path_edges (fixed_matrix (matrix_of d)) (segments_of d) (coordinates_of edition d) (segment_count d)

-- k at the pixel (x, y), of a path with the edges es
unfoldable pub coverage_of : List Edge → List ℕ → ℕ → ℕ → ℕ
coverage_of es d x y = scissored (scissoring d) (scissors_of d) (scissor_count d) x y (coverage es (non_zero_rule d) x y)

abbrev pub draw_coverage : ℕ → List ℕ → ℕ → ℕ → ℕ
draw_coverage edition d = coverage_of (draw_edges edition d) d

-- premultiplied bytes by the draw's colour transformation, where it is on
unfoldable pub draw_transform : List ℕ → Pixel → Pixel
draw_transform d p = cond (transforms d) (transformed (fixed_transform (transform_of d)) p) p

-- the paint's premultiplied bytes there
unfoldable pub draw_paint : List ℕ → ℕ → ℕ → Pixel
draw_paint d x y = draw_transform d (paint_at (paint_of d) (spread_of d) (ramp_premultiplied d) (stops_of d) (stop_count d) x y)

-- m there: the mask's byte, or 255 where the draw does not ask for the mask
unfoldable pub draw_mask : List ℕ → (ℕ → ℕ → ℕ) → ℕ → ℕ → ℕ
draw_mask d mask x y = cond (uses_mask d) (mask x y) 255

-- what the draw stores there, where the pixel holds p
unfoldable pub step_of : List Edge → List ℕ → (ℕ → ℕ → ℕ) → ℕ → ℕ → Pixel → Pixel
step_of es d mask x y p = composite (blend_of d) (coverage_of es d x y) (draw_mask d mask x y) (draw_paint d x y) p

abbrev pub draw_step : ℕ → List ℕ → (ℕ → ℕ → ℕ) → ℕ → ℕ → Pixel → Pixel
draw_step edition d = step_of (draw_edges edition d) d

-- ---- a scene, by its bytes s
-- draws 0 to n - 1, in order
abbrev pub first_draws : List ℕ → ℕ → List (List ℕ)
first_draws s n = tab n (draw_of s)

abbrev pub draw_all : ℕ → List (List ℕ) → (ℕ → ℕ → ℕ) → ℕ → ℕ → Pixel → Pixel
draw_all edition ds mask x y p = foldl (λ q d. draw_step edition d mask x y q) p ds

-- the pixel (x, y) of the full drawing
unfoldable pub pixel_at : List ℕ → (ℕ → ℕ → ℕ) → ℕ → ℕ → Pixel
pixel_at s mask x y = draw_all (edition_of s) (first_draws s (count_of s)) mask x y (premultiplied (background_of s))

-- a mask by its bytes, for a surface w pixels wide: byte y·w + x is that of the pixel (x, y)
abbrev pub mask_at : ℕ → List ℕ → ℕ → ℕ → ℕ
mask_at w mask x y = get_or mask (y * w + x) 0

-- the full drawing, under the mask with these bytes
unfoldable pub picture : List ℕ → List ℕ → List ℕ
picture s mask = raster (width_of s) (height_of s) (pixel_at s (mask_at (width_of s) mask))
