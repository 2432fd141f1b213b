-- Paths whose coordinates are x and y in turn: their points by their place among the coordinates, and boxes that hold them. A reviewer of the
-- paper need not read it.
use Rattle.std.specs.Prelude.{ℕ, zero, suc, ◌+◌, ◌*◌, ◌≤◌, ◌<◌, List, Bool, true, not, ◌&&◌, eqb, get_or, nat_abs}
use Rattle.fixed.specs.Little.{i16_at}
use Rattle.path.specs.declared.FixedMatrix.{FixedMatrix}
use Rattle.path.specs.declared.Point.{Point}
use Rattle.path.specs.declared.Edge.{Edge}
use Rattle.path.specs.Matrices.{transform}
use Rattle.path.specs.Segments.{number_horizontal, number_vertical, point}
use Rattle.outline.specs.Around.{Over}

-- ---- plain segments whose coordinates are whole points: all but horizontal and vertical
abbrev pub is_paired : ℕ → Bool
is_paired byte = not (eqb byte number_horizontal) && not (eqb byte number_vertical)

-- the first n segments are such
abbrev pub paired_to : List ℕ → ℕ → Bool
paired_to segments zero = true
paired_to segments (suc n) = is_paired (get_or segments n 0) && paired_to segments n

-- ---- point i: a coordinate has two bytes
unfoldable pub point_of : List ℕ → ℕ → Point
point_of coordinates i = point (i16_at coordinates (4 * i)) (i16_at coordinates (4 * i + 2))

-- the box c holds the first n points
pub record Framed (c : Edge) (coordinates : List ℕ) (n : ℕ) : Type 0 where
  pub each : (i : ℕ) → i < n → Over c (point_of coordinates i)

-- it holds them where the matrix takes them
pub record FramedBy (m : FixedMatrix) (c : Edge) (coordinates : List ℕ) (n : ℕ) : Type 0 where
  pub each : (i : ℕ) → i < n → Over c (transform m (point_of coordinates i))

-- ---- boxes
-- every point in the box b is taken into the box c
pub record Takes (m : FixedMatrix) (b c : Edge) : Type 0 where
  pub each : (p : Point) → Over b p → Over c (transform m p)

-- the ends of an edge, and the other diagonal of the box between them
abbrev pub from_end : Edge → Point
from_end e = point e.x0 e.y0

abbrev pub to_end : Edge → Point
to_end e = point e.x1 e.y1

abbrev pub crossed : Edge → Edge
crossed e = record { x0 = e.x0; y0 = e.y1; x1 = e.x1; y1 = e.y0 }

-- both ends have coordinates of 16 bits
pub record NearEnds (e : Edge) : Type 0 where
  pub x0 : nat_abs e.x0 ≤ 32768
  pub y0 : nat_abs e.y0 ≤ 32768
  pub x1 : nat_abs e.x1 ≤ 32768
  pub y1 : nat_abs e.y1 ≤ 32768
