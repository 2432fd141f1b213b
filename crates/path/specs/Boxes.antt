-- A draw's box: the pixels from floor of the least X / 256 to floor of the greatest, and so for Y, over all edge ends, cut to the surface ("The redrawn area").
use Rattle.std.specs.Prelude.{ℕ, min, Bool, false, true, cond, ℤ, pos, nat_abs, ◌+ℤ◌}
use mathlib.Core.List.{List, [], ◌∷◌, foldl}
use Rattle.std.specs.Int.Signed.{le_z}
use Rattle.fixed.specs.Floor.{floor_div}
use Rattle.rect.specs.declared.Rect.{Rect}
use Rattle.rect.specs.Rects.{none}
use Rattle.path.specs.declared.Edge.{Edge}

-- the lesser of two, or the greater
unfoldable pub outer : Bool → ℤ → ℤ → ℤ
outer greater a b = cond (le_z a b) (cond greater b a) (cond greater a b)

-- an edge's outer end on an axis: false for x, true for y
abbrev pub end_of : Bool → Bool → Edge → ℤ
end_of greater axis e = cond axis (outer greater e.y0 e.y1) (outer greater e.x0 e.x1)

-- over all edges; 0 where there are none
unfoldable pub outer_of : Bool → Bool → List Edge → ℤ
outer_of greater axis [] = pos 0
outer_of greater axis (e ∷ es) = foldl (λ m d. outer greater m (end_of greater axis d)) (end_of greater axis e) es

-- a column or row number, cut to 0..n
abbrev pub within : ℕ → ℤ → ℕ
within n z = cond (le_z z (pos 0)) 0 (min n (nat_abs z))

-- the box; a rectangle's far corner is left out of it
unfoldable pub box_of : ℕ → ℕ → List Edge → Rect
box_of width height [] = none
box_of width height (e ∷ es) = record {
  x0 = within width (floor_div (outer_of false false (e ∷ es)) 256);
  y0 = within height (floor_div (outer_of false true (e ∷ es)) 256);
  x1 = within width (floor_div (outer_of true false (e ∷ es)) 256 +ℤ pos 1);
  y1 = within height (floor_div (outer_of true true (e ∷ es)) 256 +ℤ pos 1);
}
