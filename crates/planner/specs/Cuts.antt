-- For the planner's own functions; a reviewer of the paper need not read it.
-- A rectangle cut in two by a line: a column, where upright is true, or a row.
use Rattle.std.specs.Prelude.{ℕ, zero, suc, ◌+◌, min, max, Bool, true, cond, not, ◌&&◌, ◌||◌, List, set, leb, ltb, Option, None, Some}
use Rattle.lists.specs.Lists.{tab}
use Rattle.rect.specs.declared.Rect.{Rect}
use Rattle.rect.specs.Rects.{empty_of, meet_of, smallest}
use Rattle.planner.specs.declared.cuts.Cut.{Cut}
use Rattle.planner.specs.Runs.{rect_at}
use Rattle.regions.specs.Planned.{lowest, past}

-- the lines of a rectangle before c, and those from c on
unfoldable pub before : Bool → Rect → ℕ → Rect
before upright a c =
    record { x0 = a.x0; y0 = a.y0; x1 = cond upright (min a.x1 c) a.x1; y1 = cond upright a.y1 (min a.y1 c) }

unfoldable pub beyond : Bool → Rect → ℕ → Rect
beyond upright a c =
    record { x0 = cond upright (max a.x0 c) a.x0; y0 = cond upright a.y0 (max a.y0 c); x1 = a.x1; y1 = a.y1 }

-- the smallest rectangle round what m boxes have of it
unfoldable pub shrunk : ℕ → (ℕ → Rect) → Rect → Rect
shrunk m boxes a = smallest (tab m (λ k. meet_of a (boxes k)))

-- a box has a pixel in the line c; none of m has one
unfoldable pub touches : Bool → Rect → ℕ → Bool
touches upright b c = not (empty_of b) && (leb (lowest upright b) c && ltb c (past upright b))

abbrev pub free : Bool → ℕ → (ℕ → Rect) → ℕ → Bool
free upright zero boxes c = true
free upright (suc m) boxes c = free upright m boxes c && not (touches upright (boxes m) c)

-- c is a line of the area that none touches
unfoldable pub opens : ℕ → (ℕ → Rect) → Rect → Bool → ℕ → Bool
opens m boxes area upright c = leb (lowest upright area) c && (ltb c (past upright area) && free upright m boxes c)

-- the cut that saves more
abbrev pub better_of : Option Cut → Option Cut → Option Cut
better_of None b = b
better_of (Some a) None = Some a
better_of (Some a) (Some b) = Some (cond (ltb a.saved b.saved) b a)

-- rectangle i of n in a run cut at a line, where both parts have a pixel: the first stands in its place, the second behind them all
abbrev pub one_empty : ℕ → (ℕ → Rect) → Rect → Bool → ℕ → Bool
one_empty m boxes a upright c = empty_of (shrunk m boxes (before upright a c)) || empty_of (shrunk m boxes (beyond upright a c))

unfoldable pub split_run : ℕ → (ℕ → Rect) → List Rect → ℕ → ℕ → Bool → ℕ → List Rect
split_run m boxes rs n i upright c =
    cond (one_empty m boxes (rect_at rs i) upright c) rs
    (set (set rs i (shrunk m boxes (before upright (rect_at rs i) c))) n (shrunk m boxes (beyond upright (rect_at rs i) c)))

unfoldable pub split_count : ℕ → (ℕ → Rect) → List Rect → ℕ → ℕ → Bool → ℕ → ℕ
split_count m boxes rs n i upright c = cond (one_empty m boxes (rect_at rs i) upright c) n (n + 1)
