-- Edges that are seen to cover a whole rectangle. A reviewer of the paper need not read it.
use Rattle.std.specs.Prelude.{ℕ, ◌*◌, ◌-◌, ◌≡◌, List, Bool, cond, ◌&&◌, ◌||◌, ℤ}
use Rattle.std.specs.Int.Signed.{le_z, lt_z}
use Rattle.rect.specs.declared.Rect.{Rect}
use Rattle.rect.specs.Rects.{Inside}
use Rattle.path.specs.declared.Edge.{Edge}
use Rattle.coverage.specs.Winding.{sample, coverage}
use Rattle.coverage.specs.Scanline.{beyond}
use Rattle.coverage.specs.Band.{apart}

-- from an end at or below the first row of samples of the pixel rows from to end - 1 to one above the last
abbrev pub across : ℤ → ℤ → ℕ → ℕ → Bool
across low high from end = le_z low (sample (4 * from)) && lt_z (sample (4 * end - 1)) high

-- an edge goes along the left side of a rectangle: it has no sample left of it, and every row of samples between its ends
abbrev pub alongside : Edge → Rect → Bool
alongside e a =
    le_z e.x0 (sample (4 * a.x0)) && (le_z e.x1 (sample (4 * a.x0))
    && (across e.y0 e.y1 a.y0 a.y1 || across e.y1 e.y0 a.y0 a.y1))

-- what an edge is to a rectangle: 0 where it counts at no sample, 1 where it counts at all of them, 2 where neither is seen
unfoldable pub part_of : Rect → Edge → ℕ
part_of a e = cond (apart e.y0 e.y1 a.y0 a.y1) 0 (cond (beyond e.x0 e.x1 (4 * a.x1)) 0 (cond (alongside e a) 1 2))

-- k is 16 in every pixel of a rectangle, whatever the fill rule
abbrev pub Covered : List Edge → Rect → Type 0
Covered es a = (non_zero : Bool) (x y : ℕ) → Inside a x y → coverage es non_zero x y ≡ 16
