-- What the functions of this crate ask of their arguments, so that no step overflows, and the parts of a cut point. A reviewer of the
-- paper need not read it.
use Rattle.std.specs.Prelude.{ℕ, ◌+◌, ◌*◌, ◌/◌, ◌^◌, ◌≤◌, ◌≡◌, true, ℤ, pos, nat_abs, ◌+ℤ◌, ◌*ℤ◌}
use Rattle.fixed.specs.Floor.{floor_div}
use Rattle.path.specs.declared.FixedMatrix.{FixedMatrix}
use Rattle.path.specs.declared.Point.{Point}
use Rattle.path.specs.declared.Pen.{Pen}
use Rattle.path.specs.declared.Curve.{Curve}
use Rattle.path.specs.Matrices.{transform, on_surface_grid}
use Rattle.path.specs.Limits.{Near}
use Rattle.path.specs.Curves.{weight}
use Rattle.outline.specs.declared.Weights.{Weights}

-- a point on the surface, of the size that the rules of a path keep: 8,388,608
pub record OnGrid (p : Point) : Type 0 where
  pub x : nat_abs p.x ≤ 8388608
  pub y : nat_abs p.y ≤ 8388608

-- a curve with such points, of degree 1, 2 or 3
pub record Drawable (c : Curve) : Type 0 where
  pub some : 1 ≤ c.degree
  pub most : c.degree ≤ 3
  pub p1 : OnGrid c.p1
  pub p2 : OnGrid c.p2
  pub p3 : OnGrid c.p3

-- ---- points of a path that the matrix takes to such points
pub record Placed (m : FixedMatrix) (p : Point) : Type 0 where
  pub near : Near p
  pub there : on_surface_grid (transform m p) ≡ true

pub record PenPlaced (m : FixedMatrix) (pen : Pen) : Type 0 where
  pub start : Placed m pen.start
  pub current : Placed m pen.current

pub record CurvePlaced (m : FixedMatrix) (c : Curve) : Type 0 where
  pub some : 1 ≤ c.degree
  pub most : c.degree ≤ 3
  pub p1 : Placed m c.p1
  pub p2 : Placed m c.p2
  pub p3 : Placed m c.p3

-- ---- a cut point
abbrev pub weights_of : ℕ → ℕ → Weights
weights_of degree k = record { w0 = weight degree k 0; w1 = weight degree k 1; w2 = weight degree k 2; w3 = weight degree k 3 }

-- the same, multiplied out: s is 16 - k
abbrev pub quad_weights : ℕ → ℕ → Weights
quad_weights s k = record { w0 = s * s; w1 = 2 * (k * s); w2 = k * k; w3 = 0 }

abbrev pub cubic_weights : ℕ → ℕ → Weights
cubic_weights s k = record { w0 = s * s * s; w1 = 3 * (k * s * s); w2 = 3 * (k * k * s); w3 = k * k * k }

-- weights of a curve of degree 2 or 3, which add up to 16 ^ degree
pub record Full (degree : ℕ) (w : Weights) : Type 0 where
  pub some : 2 ≤ degree
  pub most : degree ≤ 3
  pub total : w.w0 + w.w1 + w.w2 + w.w3 ≡ 16 ^ degree

-- one axis of a cut point: the weighted sum, and the number nearest to it over 16 ^ degree
abbrev pub summed : Weights → ℤ → ℤ → ℤ → ℤ → ℤ
summed w a b c d = a *ℤ pos w.w0 +ℤ b *ℤ pos w.w1 +ℤ c *ℤ pos w.w2 +ℤ d *ℤ pos w.w3

abbrev pub blended : ℕ → Weights → ℤ → ℤ → ℤ → ℤ → ℤ
blended degree w a b c d = floor_div (summed w a b c d +ℤ pos (16 ^ degree / 2)) (16 ^ degree)
