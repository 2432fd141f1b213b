-- The paint of a pixel, premultiplied, as blending takes it.
use Rattle.std.specs.Prelude.{ℕ, Bool, cond, List, ℤ}
use Rattle.color.specs.declared.Pixel.{Pixel}
use Rattle.color.specs.Channels.{bytes_of_color, premultiplied}
use Rattle.paint.specs.Gradient.{fixed_points, linear_t, mapped}
use Rattle.paint.specs.Radial.{fixed_circle, radial_t}
use Rattle.paint.specs.Ramps.{ramp_of, ramp_at}
use Rattle.paint.specs.declared.Paint.{Paint}
use Rattle.paint.specs.declared.Stop.{Stop}
use Rattle.paint.specs.declared.Paint.TheVariants.{Solid, Linear, Radial}

-- the paint types, by their numbers in the scene file
abbrev pub paint_color : ℕ
paint_color = 0x1B00

abbrev pub paint_linear : ℕ
paint_linear = 0x1B01

abbrev pub paint_radial : ℕ
paint_radial = 0x1B02

abbrev pub paint_type : Paint → ℕ
paint_type (Solid c) = paint_color
paint_type (Linear p) = paint_linear
paint_type (Radial p) = paint_radial

-- a gradient's colour at t: with bit 2 the stops are premultiplied, else the result is
unfoldable pub gradient_color : ℕ → Bool → List Stop → ℤ → Pixel
gradient_color spread premultiply ramp t = cond premultiply (ramp_at ramp (mapped spread t)) (premultiplied (ramp_at ramp (mapped spread t)))

-- the paint at the pixel (x, y): spread, bit 2 and the n stops' bytes go with a gradient
unfoldable pub paint_at : Paint → ℕ → Bool → List ℕ → ℕ → ℕ → ℕ → Pixel
paint_at (Solid c) spread premultiply stops n x y = premultiplied (bytes_of_color c)
paint_at (Linear p) spread premultiply stops n x y = gradient_color spread premultiply (ramp_of premultiply stops n) (linear_t (fixed_points p) x y)
paint_at (Radial p) spread premultiply stops n x y = gradient_color spread premultiply (ramp_of premultiply stops n) (radial_t (fixed_circle p) x y)
