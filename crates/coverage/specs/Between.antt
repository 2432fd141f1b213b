-- Rows that two edges cross, one up and one down: what lies between them. A reviewer of the paper need not read it.
use Rattle.std.specs.Prelude.{ℕ, zero, suc, ◌+◌, ◌-◌, ◌*◌, ◌/◌, ◌≤◌, ◌<◌, min, max, ◌≡◌, cond, ◌⊎◌, eqb, ℤ, pos, negsuc}
use Rattle.path.specs.declared.Edge.{Edge}
use Rattle.coverage.specs.declared.Crossed.{Crossed}
use Rattle.coverage.specs.declared.Columns.{Columns}
use Rattle.coverage.specs.Winding.{weight, sample}
use Rattle.coverage.specs.Scanline.{start_at}

-- the column of sample row r
abbrev pub crossed_at : Crossed → ℕ → ℕ
crossed_at s zero = s.a
crossed_at s (suc zero) = s.b
crossed_at s (suc (suc zero)) = s.c
crossed_at s (suc (suc (suc r))) = s.d

-- what an edge counts that goes up (1) or down (2)
abbrev pub count_of : ℕ → ℤ
count_of way = cond (eqb way 1) (pos 1) (negsuc 0)

-- where an edge's count begins in the sample rows of the pixel row y, and what it counts there, if its way is known
pub record Crosses (c k y : ℕ) (e : Edge) (s : Crossed) : Type 0 where
  pub begins : 0 < s.way → (r : ℕ) → r < 4 → start_at c k (sample (4 * y + r)) e ≡ crossed_at s r
  pub counts : 0 < s.way → (r : ℕ) → r < 4 → weight (sample (4 * y + r)) e ≡ count_of s.way

-- four columns with the way
unfoldable pub crossed_by : ℕ → Columns → Crossed
crossed_by way s = record { way = way; a = s.a; b = s.b; c = s.c; d = s.d }

-- one up and one down
abbrev pub Opposed : ℕ → ℕ → Type 0
Opposed a b = ((a ≡ 1) × (b ≡ 2)) ⊎ ((a ≡ 2) × (b ≡ 1))

unfoldable pub lesser_of : Crossed → Crossed → Columns
lesser_of s t = record { a = min s.a t.a; b = min s.b t.b; c = min s.c t.c; d = min s.d t.d }

unfoldable pub greater_of : Crossed → Crossed → Columns
greater_of s t = record { a = max s.a t.a; b = max s.b t.b; c = max s.c t.c; d = max s.d t.d }

-- in each sample row of k columns
pub record Ordered (lo hi : Columns) (k : ℕ) : Type 0 where
  pub a : (lo.a ≤ hi.a) × (hi.a ≤ k)
  pub b : (lo.b ≤ hi.b) × (hi.b ≤ k)
  pub c : (lo.c ≤ hi.c) × (hi.c ≤ k)
  pub d : (lo.d ≤ hi.d) × (hi.d ≤ k)

-- the pixel of the first of four columns, and the one behind the last
unfoldable pub first_of : Columns → ℕ
first_of s = min (min s.a s.b) (min s.c s.d) / 4

unfoldable pub end_of : Columns → ℕ
end_of s = (max (max s.a s.b) (max s.c s.d) + 3) / 4

-- of the four samples of pixel p in a sample row, how many lie before column c; of all 16, how many lie before four columns
abbrev pub reached : ℕ → ℕ → ℕ
reached c p = min (c - p * 4) 4

unfoldable pub reached_all : Columns → ℕ → ℕ
reached_all s p = reached s.a p + reached s.b p + reached s.c p + reached s.d p

-- k of pixel p, which is covered from the columns lo to before the columns hi
unfoldable pub level_at : Columns → Columns → ℕ → ℕ
level_at lo hi p = reached_all hi p - reached_all lo p
