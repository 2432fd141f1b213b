-- For the planner's own functions; a reviewer of the paper need not read it.
-- Rectangles one after the other, and as a proposal has them, four numbers to each.
use Rattle.std.specs.Prelude.{ℕ, ◌+◌, ◌-◌, ◌<◌, List, [], ◌∷◌, get_or, set, ℤ, pos}
use Rattle.lists.specs.Lists.{upto}
use Rattle.rect.specs.declared.Rect.{Rect}
use Rattle.rect.specs.Rects.{On, none}

abbrev pub rect_at : List Rect → ℕ → Rect
rect_at l k = get_or l k none

-- x, y, width, height for each
abbrev pub four_of : Rect → List ℤ
four_of a = pos a.x0 ∷ pos a.y0 ∷ pos (a.x1 - a.x0) ∷ pos (a.y1 - a.y0) ∷ []

unfoldable pub numbers_of : ℕ → (ℕ → Rect) → List ℤ
numbers_of n rs = upto n (λ k. four_of (rs k))

-- a list of numbers with those of a from i on
unfoldable pub put_four : List ℤ → ℕ → Rect → List ℤ
put_four l i a = set (set (set (set l i (pos a.x0)) (i + 1) (pos a.y0)) (i + 2) (pos (a.x1 - a.x0))) (i + 3) (pos (a.y1 - a.y0))

-- the first n lie in the largest surface
abbrev pub Sized : ℕ → (ℕ → Rect) → Type 0
Sized n rs = (k : ℕ) → k < n → On 1024 1024 (rs k)
