-- For this crate's own functions; a reviewer of the paper need not read it.
--     some n f            one of f 0, .., f (n - 1) holds
--     in_one n rs x y      the pixel (x, y) is in one of the rectangles rs 0, .., rs (n - 1)
use Rattle.std.specs.Prelude.{ℕ, zero, suc, ◌+◌, ◌-◌, ◌/◌, ◌<◌, List, Bool, false, ◌||◌, length, ℤ}
use Rattle.rect.specs.declared.Rect.{Rect}
use Rattle.rect.specs.Rects.{inside, On}
use Rattle.regions.specs.Pixels.{every}
use Rattle.regions.specs.Proposals.{proposed_at}

abbrev pub some : ℕ → (ℕ → Bool) → Bool
some zero f = false
some (suc n) f = some n f || f n

unfoldable pub in_one : ℕ → (ℕ → Rect) → ℕ → ℕ → Bool
in_one n rs x y = some n (λ k. inside (rs k) x y)

-- column x of the rows y0 up to y1: each of its pixels is in one of the first n
unfoldable pub column_covered : List ℤ → ℕ → ℕ → ℕ → ℕ → Bool
column_covered l n y0 y1 x = every (y1 - y0) (λ j. in_one n (proposed_at l) x (y0 + j))

-- each rectangle of a proposal lies on a surface of w by h pixels
abbrev pub AllOn : ℕ → ℕ → List ℤ → Type 0
AllOn w h l = (k : ℕ) → k < length l / 4 → On w h (proposed_at l k)
