-- The winding numbers of a pixel's 16 samples, added up edge by edge. A reviewer of the paper need not read it.
use Rattle.std.specs.Prelude.{ℕ, ◌+◌, ◌*◌, ◌/◌, ◌%◌, ◌≤◌, ◌<◌, ◌≡◌, List, length, get_or, ℤ, pos, nat_abs, ◌+ℤ◌}
use Rattle.lists.specs.Lists.{tab}
use Rattle.path.specs.declared.Edge.{Edge}
use Rattle.coverage.specs.Winding.{winding, sample}

-- the winding number of the edges es at sample j of the pixel (x, y), row by row
abbrev pub winding_at : ℕ → ℕ → List Edge → ℕ → ℤ
winding_at x y es j = winding es (sample (4 * x + j % 4)) (sample (4 * y + j / 4))

-- the sums s with these edges besides
unfoldable pub wound : ℕ → ℕ → List ℤ → List Edge → List ℤ
wound x y s es = tab 16 (λ j. get_or s j (pos 0) +ℤ winding_at x y es j)

-- 16 sums of at most n in size
pub record Sums (s : List ℤ) (n : ℕ) : Type 0 where
  pub room : length s ≡ 16
  pub small : (j : ℕ) → j < 16 → nat_abs (get_or s j (pos 0)) ≤ n
