-- The linear gradient's t at a pixel, and the spread modes ("Ramp").
use Rattle.std.specs.Prelude.{ℕ, ◌+◌, ◌-◌, ◌*◌, ◌%◌, cond, ℤ, pos, ◌+ℤ◌, ◌-ℤ◌, ◌*ℤ◌, ◌==◌, unsigned_abs}
use Rattle.fixed.specs.Floor.{floor_div, floor_mod}
use Rattle.fixed.specs.Floats.{scaled}
use Rattle.paint.specs.declared.LinearPoints.{LinearPoints}
use Rattle.paint.specs.declared.FixedPoints.{FixedPoints}

-- a linear point becomes floor(256v + 1/2)
abbrev pub fixed_points : LinearPoints → FixedPoints
fixed_points p = record { x0 = scaled 256 p.x0; y0 = scaled 256 p.y0; x1 = scaled 256 p.x1; y1 = scaled 256 p.y1 }

-- a ramp's 1: t runs from 0 at the first point to 65,536 at the second, and so do the stops' offsets
abbrev pub ramp_unit : ℕ
ramp_unit = 65536

-- the pixel's centre, in 1/256
abbrev pub centre : ℕ → ℤ
centre x = pos (256 * x + 128)

-- dx² + dy²
abbrev pub squared_length : FixedPoints → ℤ
squared_length p = (p.x1 -ℤ p.x0) *ℤ (p.x1 -ℤ p.x0) +ℤ (p.y1 -ℤ p.y0) *ℤ (p.y1 -ℤ p.y0)

-- dx(x - x0) + dy(y - y0)
abbrev pub projection : FixedPoints → ℕ → ℕ → ℤ
projection p x y = (p.x1 -ℤ p.x0) *ℤ (centre x -ℤ p.x0) +ℤ (p.y1 -ℤ p.y0) *ℤ (centre y -ℤ p.y0)

-- t at the pixel (x, y); 65,536 where the points coincide
unfoldable pub linear_t : FixedPoints → ℕ → ℕ → ℤ
linear_t p x y = cond (unsigned_abs (squared_length p) == 0) (pos ramp_unit) (floor_div (pos ramp_unit *ℤ projection p x y) (unsigned_abs (squared_length p)))

-- the spread modes, by their numbers in the scene file
abbrev pub spread_pad : ℕ
spread_pad = 0x1C00

abbrev pub spread_repeat : ℕ
spread_repeat = 0x1C01

abbrev pub spread_reflect : ℕ
spread_reflect = 0x1C02

-- repeat takes t modulo 65,536; reflect 65,536 minus that where floor(t / 65,536) is odd
unfoldable pub mapped : ℕ → ℤ → ℤ
mapped spread t =
    cond (spread == spread_repeat) (pos (floor_mod t ramp_unit))
    (cond (spread == spread_reflect)
    (cond (unsigned_abs (floor_div t ramp_unit) % 2 == 1) (pos (ramp_unit - floor_mod t ramp_unit)) (pos (floor_mod t ramp_unit)))
    t)
