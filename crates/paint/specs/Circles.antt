-- How the code holds a radial gradient, A and Q along a row, and a gradient of either kind. Only the proofs need it: a reviewer of the paper need not read it.
use Rattle.std.specs.Prelude.{◌≡◌, ℕ, ◌+◌, ◌*◌, ◌/◌, ◌%◌, ◌<◌, ◌≤◌, min, true, ◌⊎◌, List, ℤ, pos, negsuc, ◌+ℤ◌, ◌-ℤ◌, ◌*ℤ◌, ◌≤ℤ◌, unsigned_abs}
use Rattle.color.specs.declared.Pixel.{Pixel}
use Rattle.paint.specs.Gradient.{ramp_unit}
use Rattle.paint.specs.Radial.{along, under_root, from_focus, radial_t, focal_allowed}
use Rattle.paint.specs.Paints.{gradient_color}
use Rattle.paint.specs.Buffers.{LimitedPoints, HeldRamp, stops_in, linear_at}
use Rattle.paint.specs.declared.Circle.{Circle}
use Rattle.paint.specs.declared.AnyGradient.{AnyGradient}
use Rattle.paint.specs.declared.AnyGradient.TheVariants.{Linear, Radial}
use Rattle.paint.specs.declared.Columns.{Columns}
use Rattle.paint.specs.declared.Place.{Place}
use Rattle.paint.specs.declared.RadialGradient.{RadialGradient}
use Rattle.paint.specs.declared.Stop.{Stop}

-- numbers of at most 1,024 pixels in size
pub record LimitedCircle (c : Circle) : Type 0 where
  pub cx : unsigned_abs c.cx ≤ 16384
  pub cy : unsigned_abs c.cy ≤ 16384
  pub fx : unsigned_abs c.fx ≤ 16384
  pub fy : unsigned_abs c.fy ≤ 16384
  pub r : unsigned_abs c.r ≤ 16384

-- a D of which one product gives t: its square is below 2^47, or 256 divides it and its square is below 256 times that
abbrev pub ByProduct : ℕ → Type 0
ByProduct d = (d ≤ 189812480) × ((d * d < 140737488355328) ⊎ ((d % 256 ≡ 0) × (d * (d / 256) < 140737488355328)))

-- ---- A and Q from pixel to pixel, which lie 16 apart: A grows by da, Q by dq, and dq by ddq
unfoldable pub place_from : ℤ → ℤ → ℤ → ℤ → ℤ → Place
place_from r dx dy f g = record {
  a = along dx dy f g;
  q = under_root r dx dy f g;
  dq = under_root r (dx +ℤ pos 16) dy f g -ℤ under_root r dx dy f g;
  da = pos 16 *ℤ f;
  ddq = pos 512 *ℤ (r *ℤ r -ℤ g *ℤ g);
}

unfoldable pub place_at : Circle → ℕ → ℕ → Place
place_at c x y = place_from c.r (from_focus x c.fx) (from_focus y c.fy) (c.fx -ℤ c.cx) (c.fy -ℤ c.cy)

abbrev pub next_place : Place → Place
next_place p = record { a = p.a +ℤ p.da; q = p.q +ℤ p.dq; dq = p.dq +ℤ p.ddq; da = p.da; ddq = p.ddq }

-- at most 2^61 in size, so that a sum fits 64 bits
pub record ModeratePlace (p : Place) : Type 0 where
  pub a : unsigned_abs p.a ≤ 2305843009213693952
  pub q : unsigned_abs p.q ≤ 2305843009213693952
  pub dq : unsigned_abs p.dq ≤ 2305843009213693952
  pub da : unsigned_abs p.da ≤ 2305843009213693952
  pub ddq : unsigned_abs p.ddq ≤ 2305843009213693952

-- ---- the pixels of a row that may lie inside the circle
-- the first of n pixels, 16 apart, that lies z or more behind the first of them
abbrev pub first_from : ℤ → ℕ → ℕ
first_from (pos z) n = min ((z + 15) / 16) n
first_from (negsuc z) n = 0

-- the first pixel lies at ex: those from -s to s
abbrev pub columns_from : ℤ → ℕ → ℕ → Columns
columns_from ex s n = record { from = first_from (pos 0 -ℤ pos s -ℤ ex) n; to = first_from (pos s -ℤ ex +ℤ pos 1) n }

-- what holds of all pixels but those of the columns, which are some of n
pub record Elsewhere (P : ℕ → Type 0) (n : ℕ) (k : Columns) : Type 0 where
  pub order : k.from ≤ k.to
  pub few : k.to ≤ n
  pub before : (i : ℕ) → i < k.from → P i
  pub behind : (i : ℕ) → k.to ≤ i → i < n → P i

-- the first pixel lies (ex, ey) from the centre: the others lie on or outside the circle
abbrev pub Enclosing : ℤ → ℤ → ℤ → ℕ → Columns → Type 0
Enclosing r ex ey = Elsewhere (λ i. (r *ℤ r) ≤ℤ ((ex +ℤ pos (16 * i)) *ℤ (ex +ℤ pos (16 * i)) +ℤ ey *ℤ ey))

-- the first pixel is (x, y): t of the others is at least 65,536
abbrev pub RampWithin : Circle → ℕ → ℕ → ℕ → Columns → Type 0
RampWithin c x y = Elsewhere (λ i. pos ramp_unit ≤ℤ radial_t c (x + i) y)

-- ---- a radial gradient as it is drawn
abbrev pub radial_at : RadialGradient → List Stop → ℕ → ℕ → Pixel
radial_at g ramp x y = gradient_color g.spread g.premultiply ramp (radial_t g.circle x y)

-- ---- a gradient of either kind, its ramp in a run of numbers: its paint at a pixel, and what is asked of both
abbrev pub gradient_at : AnyGradient → List ℕ → ℕ → ℕ → Pixel
gradient_at (Linear g) ramp x y = linear_at g (stops_in ramp g.count) x y
gradient_at (Radial g) ramp x y = radial_at g (stops_in ramp g.count) x y

abbrev pub HeldGradient : AnyGradient → List ℕ → Type 0
HeldGradient (Linear g) ramp = LimitedPoints g.points × HeldRamp ramp g.count
HeldGradient (Radial g) ramp = LimitedCircle g.circle × (focal_allowed g.circle ≡ true) × HeldRamp ramp g.count
