-- Edges and points in a box, which is kept as one edge from its least corner to its greatest. A reviewer of the paper need not read it.
use Rattle.std.specs.Prelude.{Bool, false, true, cond, List, ℤ, ◌≤ℤ◌}
use Rattle.path.specs.declared.Point.{Point}
use Rattle.path.specs.declared.Edge.{Edge}
use Rattle.path.specs.Boxes.{end_of}
use Rattle.outline.specs.Every.{Every}

-- a lies at b or further out, on the low side or on the high side
abbrev pub Beyond : Bool → ℤ → ℤ → Type 0
Beyond false a b = a ≤ℤ b
Beyond true a b = b ≤ℤ a

-- a side of the box: on an axis, false for x and true for y, the lesser or the greater
abbrev pub side_of : Bool → Bool → Edge → ℤ
side_of greater axis c = cond axis (cond greater c.y1 c.y0) (cond greater c.x1 c.x0)

-- the box c holds the box b
pub record Wider (c b : Edge) : Type 0 where
  pub side : (greater axis : Bool) → Beyond greater (side_of greater axis c) (side_of greater axis b)

-- it holds every edge of a list
pub record Around (c : Edge) (es : List Edge) : Type 0 where
  pub side : (greater axis : Bool) → Every (λ e. Beyond greater (side_of greater axis c) (end_of greater axis e)) es

-- a point's number on an axis, and the box holds the point
abbrev pub axis_of : Bool → Point → ℤ
axis_of axis p = cond axis p.y p.x

pub record Over (c : Edge) (p : Point) : Type 0 where
  pub side : (greater axis : Bool) → Beyond greater (side_of greater axis c) (axis_of axis p)
