-- What the functions of this crate ask of their arguments, so that no step overflows. A reviewer of the paper need not read it.
use Rattle.std.specs.Prelude.{ℕ, ◌+◌, ◌*◌, ◌≤◌, ◌<◌, List, length, nat_abs}
use Rattle.path.specs.declared.FixedMatrix.{FixedMatrix}
use Rattle.path.specs.declared.Point.{Point}
use Rattle.path.specs.declared.Pen.{Pen}
use Rattle.path.specs.declared.Curve.{Curve}
use Rattle.path.specs.declared.Walk.{Walk}
use Rattle.path.specs.Segments.{coordinates_taken}

-- 256 and 32,768, in 1/65,536
pub record Limited (m : FixedMatrix) : Type 0 where
  pub sx : nat_abs m.sx ≤ 16777216
  pub shy : nat_abs m.shy ≤ 16777216
  pub shx : nat_abs m.shx ≤ 16777216
  pub sy : nat_abs m.sy ≤ 16777216
  pub tx : nat_abs m.tx ≤ 2147483648
  pub ty : nat_abs m.ty ≤ 2147483648

-- a point of a path that was accepted, and a pen with such points
pub record Near (p : Point) : Type 0 where
  pub x : nat_abs p.x ≤ 32768
  pub y : nat_abs p.y ≤ 32768

pub record Held (pen : Pen) : Type 0 where
  pub start : Near pen.start
  pub current : Near pen.current
  pub control : Near pen.control

pub record NearCurve (c : Curve) : Type 0 where
  pub p1 : Near c.p1
  pub p2 : Near c.p2
  pub p3 : Near c.p3

-- a walk over segments that were accepted
pub record Ready (coordinates : List ℕ) (walk : Walk) : Type 0 where
  pub held : Held walk.pen
  pub there : 2 * walk.used ≤ length coordinates

-- a walk that can take a segment: its number is one of the nine, and its coordinates are there
pub record Supplied (coordinates : List ℕ) (walk : Walk) (byte : ℕ) : Type 0 where
  pub held : Held walk.pen
  pub segment : byte < 18
  pub enough : 2 * (walk.used + coordinates_taken byte) ≤ length coordinates
