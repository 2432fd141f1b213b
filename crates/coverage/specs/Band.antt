-- The edges that a band of pixel rows needs. A reviewer of the paper need not read it.
use Rattle.std.specs.Prelude.{ℕ, ◌+◌, ◌*◌, ◌-◌, ◌≤◌, ◌<◌, ◌≡◌, List, [], ◌∷◌, Bool, true, cond, ◌&&◌, ltb, ℤ, length, get_or}
use Rattle.std.specs.Int.Signed.{le_z, lt_z}
use Rattle.lists.specs.Lists.{upto}
use Rattle.path.specs.Stored.{edge_at}
use Rattle.coverage.specs.Winding.{sample}
use Rattle.coverage.specs.Scanline.{missed}

-- an edge with such ends has no sample row of the pixel rows from to end - 1 between them: as `missed`, for more rows
abbrev pub apart : ℤ → ℤ → ℕ → ℕ → Bool
apart y0 y1 from end = cond (le_z y0 (sample (4 * from))) (le_z y1 (sample (4 * from))) (lt_z (sample (4 * end - 1)) y0 && lt_z (sample (4 * end - 1)) y1)

-- the other edges of the first n, in order
abbrev pub listed : List ℤ → ℕ → ℕ → ℕ → List ℕ
listed l from end n = upto n (λ i. cond (apart (edge_at l i).y0 (edge_at l i).y1 from end) [] (i ∷ []))

-- place j of a list of places below n, and n after the last
abbrev pub reach : List ℕ → ℕ → ℕ → ℕ
reach js n j = cond (ltb j (length js)) (get_or js j 0) n

-- js are places below n, in order, and P holds of every place that is not among them
pub record Kept (P : ℕ → Bool) (js : List ℕ) (n : ℕ) : Type 0 where
  pub below : (j : ℕ) → j < length js → get_or js j 0 < n
  pub rise : (j : ℕ) → j < length js → get_or js j 0 < reach js n (j + 1)
  pub first : (i : ℕ) → i < reach js n 0 → P i ≡ true
  pub gap : (j i : ℕ) → j < length js → get_or js j 0 < i → i < reach js n (j + 1) → P i ≡ true

-- every edge of the n that is not among js misses the pixel row y
abbrev pub Needed : List ℤ → ℕ → ℕ → List ℕ → Type 0
Needed l n y js = Kept (λ i. missed (edge_at l i).y0 (edge_at l i).y1 y) js n

-- and so in each pixel row from to end - 1
pub record Band (l : List ℤ) (n from end : ℕ) (js : List ℕ) : Type 0 where
  pub row : (y : ℕ) → from ≤ y → y < end → Needed l n y js
