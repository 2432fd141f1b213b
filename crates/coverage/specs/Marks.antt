-- Marks in two levels: a number for each pixel of a window, two for 64 of them. A reviewer of the paper need not read it.
use Rattle.std.specs.Prelude.{◌≡◌, List, ℕ, ◌+◌, ◌-◌, ◌/◌, ◌%◌, ◌≤◌, ◌<◌, max, length, get_or, set}

-- of 32 numbers the first 16 tell where the marks of each group end, the next 16 how far before the group's end they begin
pub record Grouped (marks groups : List ℕ) : Type 0 where
  pub wide : length marks ≤ 1024
  pub long : length groups ≡ 32
  pub ended : (i : ℕ) → i < length marks → get_or groups (i / 64) 0 ≤ i → get_or marks i 0 ≡ 0
  pub begun : (i : ℕ) → i < length marks → get_or groups (16 + i / 64) 0 + i % 64 < 64 → get_or marks i 0 ≡ 0

-- the number at a place is n, if it was less
unfoldable pub raised : List ℕ → ℕ → ℕ → List ℕ
raised s i n = set s i (max (get_or s i 0) n)

-- the groups told of marks from pixel lo to pixel hi of one group
unfoldable pub touched : List ℕ → ℕ → ℕ → List ℕ
touched groups lo hi = raised (raised groups (hi / 64) (hi + 1)) (16 + lo / 64) (64 - lo % 64)

-- four pixels marked
unfoldable pub mark_rows : ℕ → ℕ → ℕ → ℕ → List ℕ → List ℕ
mark_rows i j k l marks = set (set (set (set marks i 1) j 1) k 1) l 1

-- from p to before e no pixel is marked
pub record Blank (marks : List ℕ) (p e : ℕ) : Type 0 where
  pub low : p ≤ e
  pub high : e ≤ length marks
  pub none : (i : ℕ) → p ≤ i → i < e → get_or marks i 0 ≡ 0
