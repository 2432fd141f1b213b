-- The radial gradient's t at a pixel (paper 02, P1). All numbers are in 1/16 pixel.
use Rattle.std.specs.Prelude.{ℕ, ◌+◌, ◌*◌, Bool, true, cond, ℤ, pos, ◌+ℤ◌, ◌-ℤ◌, ◌*ℤ◌, int_lt, unsigned_abs}
use Rattle.fixed.specs.Floor.{floor_div}
use Rattle.fixed.specs.Floats.{scaled}
use Rattle.fixed.specs.Roots.{isqrt}
use Rattle.paint.specs.Gradient.{ramp_unit}
use Rattle.paint.specs.declared.RadialPoints.{RadialPoints}
use Rattle.paint.specs.declared.Circle.{Circle}

-- each of the five values becomes floor(16v + 1/2)
abbrev pub fixed_circle : RadialPoints → Circle
fixed_circle p = record { cx = scaled 16 p.cx; cy = scaled 16 p.cy; fx = scaled 16 p.fx; fy = scaled 16 p.fy; r = scaled 16 p.r }

-- ---- of dx and dy, the pixel's centre less the focal point, and f and g, which are fx' = fx - cx and fy' = fy - cy
-- A = dx·fx' + dy·fy'
abbrev pub along : ℤ → ℤ → ℤ → ℤ → ℤ
along dx dy f g = dx *ℤ f +ℤ dy *ℤ g

abbrev pub across : ℤ → ℤ → ℤ → ℤ → ℤ
across dx dy f g = dx *ℤ g -ℤ dy *ℤ f

-- Q = r²(dx² + dy²) - (dx·fy' - dy·fx')²: only the last bracket is squared
abbrev pub under_root : ℤ → ℤ → ℤ → ℤ → ℤ → ℤ
under_root r dx dy f g = r *ℤ r *ℤ (dx *ℤ dx +ℤ dy *ℤ dy) -ℤ across dx dy f g *ℤ across dx dy f g

-- D = r² - (fx'² + fy'²)
abbrev pub inside : ℤ → ℤ → ℤ → ℤ
inside r f g = r *ℤ r -ℤ (f *ℤ f +ℤ g *ℤ g)

-- ---- the same of a circle and the pixel (x, y)
-- the pixel's centre less the focal point, on one axis
abbrev pub from_focus : ℕ → ℤ → ℤ
from_focus x f = pos (16 * x + 8) -ℤ f

unfoldable pub radial_a : Circle → ℕ → ℕ → ℤ
radial_a c x y = along (from_focus x c.fx) (from_focus y c.fy) (c.fx -ℤ c.cx) (c.fy -ℤ c.cy)

unfoldable pub radial_q : Circle → ℕ → ℕ → ℤ
radial_q c x y = under_root c.r (from_focus x c.fx) (from_focus y c.fy) (c.fx -ℤ c.cx) (c.fy -ℤ c.cy)

unfoldable pub radial_d : Circle → ℤ
radial_d c = inside c.r (c.fx -ℤ c.cx) (c.fy -ℤ c.cy)

-- t = floor(65,536(A + q) / D), where q is the whole-number square root of Q, rounded down; r not above 0 gives 65,536
unfoldable pub radial_t : Circle → ℕ → ℕ → ℤ
radial_t c x y =
    cond (int_lt (pos 0) c.r)
    (floor_div (pos ramp_unit *ℤ (radial_a c x y +ℤ pos (isqrt (unsigned_abs (radial_q c x y))))) (unsigned_abs (radial_d c)))
    (pos ramp_unit)

-- the focal rule: where r is above 0, a focal point on or outside the circle is refused
abbrev pub focal_allowed : Circle → Bool
focal_allowed c = cond (int_lt (pos 0) c.r) (int_lt (pos 0) (radial_d c)) true
