-- What a scene and a draw have that the rules accept, for the contracts and proofs of those that take them. A reviewer of the paper need not
-- read it: all of it follows from the rules.
use Rattle.std.specs.Prelude.{ℕ, ◌+◌, ◌*◌, ◌≤◌, ◌<◌, ◌≡◌, List, true, false, length, Ok}
use Rattle.std.specs.Float.Ieee.{is_nan}
use Rattle.fixed.specs.Floats.{f32_at, at_most}
use Rattle.blend.specs.PorterDuff.{is_mode}
use Rattle.paint.specs.Radial.{fixed_circle, focal_allowed}
use Rattle.path.specs.Matrices.{matrix_in_limits, fixed_matrix}
use Rattle.path.specs.Segments.{fault_to}
use Rattle.scene.specs.Layout.{block_bytes, side_limit, draw_limit, segment_limit, scissor_limit, color_at, linear_points_at, radial_at, radial_floats}
use Rattle.scene.specs.Layout.{stop_floats}
use Rattle.scene.specs.Blocks.{block_of, draw_of}
use Rattle.scene.specs.Header.{width_of, height_of, count_of, edition_of}
use Rattle.scene.specs.Fields.{blend_of, paint_type_of, spread_of, segment_count, scissor_count, stop_count, matrix_of, segments_of, coordinates_of}
use Rattle.scene.specs.Fields.{is_radial, radial_of, first_stop_at}
use Rattle.scene.specs.Rules.{linear_point_limit, radial_limit, stop_limit_of, is_paint, is_spread}

-- a draw in either edition, but for its path
pub record AcceptedFields (d : List ℕ) : Type 0 where
  pub mode : is_mode (blend_of d) ≡ true
  pub paint_type : is_paint (paint_type_of d) ≡ true
  pub spread : is_spread (spread_of d) ≡ true
  pub segments : segment_count d ≤ segment_limit
  pub scissors : scissor_count d ≤ scissor_limit
  pub stops : stop_count d ≤ stop_limit_of d
  pub matrix : matrix_in_limits (matrix_of d) ≡ true
  pub color : (i : ℕ) → i < 4 → is_nan (f32_at d (color_at + 4 * i)) ≡ false
  pub points : (i : ℕ) → i < 4 → at_most linear_point_limit (f32_at d (linear_points_at + 4 * i)) ≡ true
  pub circle : is_radial d ≡ true → (i : ℕ) → i < radial_floats → at_most radial_limit (f32_at d (radial_at + 4 * i)) ≡ true
  pub focal : is_radial d ≡ true → focal_allowed (fixed_circle (radial_of d)) ≡ true
  pub stop_floats : (i : ℕ) → i < stop_floats * stop_count d → is_nan (f32_at d (first_stop_at d + 4 * i)) ≡ false

pub record AcceptedDraw (edition : ℕ) (d : List ℕ) : Type 0 where
  pub fields : AcceptedFields d
  pub path : fault_to (fixed_matrix (matrix_of d)) (segments_of d) (coordinates_of edition d) (segment_count d) ≡ Ok tt

pub record AcceptedScene (s : List ℕ) : Type 0 where
  pub width_least : 1 ≤ width_of s
  pub width_most : width_of s ≤ side_limit
  pub height_least : 1 ≤ height_of s
  pub height_most : height_of s ≤ side_limit
  pub count : count_of s ≤ draw_limit
  pub bytes : length s ≡ block_bytes * block_of (count_of s)
  pub draws : (i : ℕ) → i < count_of s → AcceptedDraw (edition_of s) (draw_of s i)
