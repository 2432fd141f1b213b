-- The box of edges as one edge, from its least corner to its greatest, and the pixels between. A reviewer of the paper need not read it.
use Rattle.std.specs.Prelude.{ℕ, false, true, List, pos, ◌+ℤ◌}
use Rattle.fixed.specs.Floor.{floor_div}
use Rattle.rect.specs.declared.Rect.{Rect}
use Rattle.path.specs.declared.Edge.{Edge}
use Rattle.path.specs.Boxes.{outer, end_of, outer_of, within}

-- of one edge
abbrev pub ordered_of : Edge → Edge
ordered_of e = record { x0 = end_of false false e; y0 = end_of false true e; x1 = end_of true false e; y1 = end_of true true e }

-- of what has the box c, and one edge more
abbrev pub grown_by : Edge → Edge → Edge
grown_by c e = record {
  x0 = outer false c.x0 (end_of false false e);
  y0 = outer false c.y0 (end_of false true e);
  x1 = outer true c.x1 (end_of true false e);
  y1 = outer true c.y1 (end_of true true e);
}

-- of a list of edges
abbrev pub corners : List Edge → Edge
corners es = record { x0 = outer_of false false es; y0 = outer_of false true es; x1 = outer_of true false es; y1 = outer_of true true es }

-- the pixels from the least corner to the greatest, on a surface of that size
abbrev pub pixels_of : ℕ → ℕ → Edge → Rect
pixels_of width height c = record {
  x0 = within width (floor_div c.x0 256);
  y0 = within height (floor_div c.y0 256);
  x1 = within width (floor_div c.x1 256 +ℤ pos 1);
  y1 = within height (floor_div c.y1 256 +ℤ pos 1);
}
