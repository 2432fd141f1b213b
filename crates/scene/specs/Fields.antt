-- A draw's fields, of its 2,032 bytes d; where its coordinates lie depends on the scene's edition too.
use Rattle.std.specs.Prelude.{ℕ, ◌+◌, ◌/◌, ◌%◌, ◌-◌, ◌^◌, List, Bool, true, false, cond, get_or, take, drop, eqb}
use Rattle.fixed.specs.Little.{u16_at}
use Rattle.fixed.specs.Floats.{f32_at}
use Rattle.path.specs.declared.Matrix.{Matrix}
use Rattle.color.specs.declared.Color.{Color}
use Rattle.paint.specs.declared.LinearPoints.{LinearPoints}
use Rattle.paint.specs.declared.RadialPoints.{RadialPoints}
use Rattle.paint.specs.declared.Paint.{Paint}
use Rattle.paint.specs.declared.Paint.TheVariants.{Solid, Linear, Radial}
use Rattle.paint.specs.Paints.{paint_linear, paint_radial}
use Rattle.transform.specs.declared.ColorTransform.{ColorTransform}
use Rattle.scene.specs.Layout.{flags_at, blend_at, paint_type_at, spread_at, segment_count_at, scissor_count_at, stop_count_at, matrix_at}
use Rattle.scene.specs.Layout.{translation_at, color_at, linear_points_at, scissors_at, stops_at, radial_at, segments_at, segments_end, transform_at}
use Rattle.scene.specs.Layout.{coordinates_at}
use Rattle.scene.specs.Layout.{draw_bytes, stop_bytes}

abbrev pub flags_of : List ℕ → ℕ
flags_of d = u16_at d flags_at

-- bit 0 fill rule, bit 1 scissoring on, bit 2 ramp premultiplied, bit 3 mask, bit 4 colour transformation, which only edition 1 lets be set
abbrev pub bit : ℕ → ℕ → Bool
bit n flags = eqb (flags / 2 ^ n % 2) 1

abbrev pub non_zero_rule : List ℕ → Bool
non_zero_rule d = bit 0 (flags_of d)

abbrev pub scissoring : List ℕ → Bool
scissoring d = bit 1 (flags_of d)

abbrev pub ramp_premultiplied : List ℕ → Bool
ramp_premultiplied d = bit 2 (flags_of d)

abbrev pub uses_mask : List ℕ → Bool
uses_mask d = bit 3 (flags_of d)

abbrev pub transforms : List ℕ → Bool
transforms d = bit 4 (flags_of d)

abbrev pub blend_of : List ℕ → ℕ
blend_of d = u16_at d blend_at

abbrev pub paint_type_of : List ℕ → ℕ
paint_type_of d = u16_at d paint_type_at

abbrev pub spread_of : List ℕ → ℕ
spread_of d = u16_at d spread_at

abbrev pub segment_count : List ℕ → ℕ
segment_count d = get_or d segment_count_at 0

abbrev pub scissor_count : List ℕ → ℕ
scissor_count d = get_or d scissor_count_at 0

abbrev pub stop_count : List ℕ → ℕ
stop_count d = get_or d stop_count_at 0

abbrev pub matrix_of : List ℕ → Matrix
matrix_of d = record {
  sx = f32_at d matrix_at;
  shy = f32_at d (matrix_at + 4);
  shx = f32_at d (matrix_at + 8);
  sy = f32_at d (matrix_at + 12);
  tx = f32_at d translation_at;
  ty = f32_at d (translation_at + 4);
}

abbrev pub color_of : List ℕ → Color
color_of d = record { r = f32_at d color_at; g = f32_at d (color_at + 4); b = f32_at d (color_at + 8); a = f32_at d (color_at + 12) }

abbrev pub linear_of : List ℕ → LinearPoints
linear_of d = record {
  x0 = f32_at d linear_points_at;
  y0 = f32_at d (linear_points_at + 4);
  x1 = f32_at d (linear_points_at + 8);
  y1 = f32_at d (linear_points_at + 12);
}

abbrev pub is_radial : List ℕ → Bool
is_radial d = eqb (paint_type_of d) paint_radial

abbrev pub radial_of : List ℕ → RadialPoints
radial_of d = record {
  cx = f32_at d radial_at;
  cy = f32_at d (radial_at + 4);
  fx = f32_at d (radial_at + 8);
  fy = f32_at d (radial_at + 12);
  r = f32_at d (radial_at + 16);
}

abbrev pub pick_paint : Bool → Paint → Paint → Paint
pick_paint true a b = a
pick_paint false a b = b

unfoldable pub paint_of : List ℕ → Paint
paint_of d = pick_paint (is_radial d) (Radial (radial_of d)) (pick_paint (eqb (paint_type_of d) paint_linear) (Linear (linear_of d)) (Solid (color_of d)))

-- edition 1's colour transformation
abbrev pub transform_of : List ℕ → ColorTransform
transform_of d = record {
  sr = f32_at d transform_at;
  sg = f32_at d (transform_at + 4);
  sb = f32_at d (transform_at + 8);
  sa = f32_at d (transform_at + 12);
  br = f32_at d (transform_at + 16);
  bg = f32_at d (transform_at + 20);
  bb = f32_at d (transform_at + 24);
  ba = f32_at d (transform_at + 28);
}

-- the bytes of the scissors, the stops, the segments and the coordinates
abbrev pub part : ℕ → ℕ → List ℕ → List ℕ
part from to d = take (to - from) (drop from d)

abbrev pub scissors_of : List ℕ → List ℕ
scissors_of d = part scissors_at stops_at d

-- a radial draw's stops are counted from the second place
unfoldable pub first_stop_at : List ℕ → ℕ
first_stop_at d = cond (is_radial d) (stops_at + stop_bytes) stops_at

abbrev pub stops_of : List ℕ → List ℕ
stops_of d = part (first_stop_at d) segments_at d

abbrev pub segments_of : List ℕ → List ℕ
segments_of d = part segments_at segments_end d

abbrev pub coordinates_of : ℕ → List ℕ → List ℕ
coordinates_of edition d = part (coordinates_at edition) draw_bytes d
