-- A row of coverage as runs, pixels that are covered alike, one number to a run: 32 times the pixel before which it ends, and its k. A run begins where the
-- one before it ends. Bookkeeping of the engine: a reviewer of the paper need not read it.
use Rattle.std.specs.Prelude.{◌≡◌, List, ℕ, zero, suc, ◌-◌, ◌/◌, ◌%◌, ◌<◌, get_or, replicate}
use Rattle.lists.specs.Lists.{upto}

-- where run j ends, where it begins, and its k
abbrev pub end_of : List ℕ → ℕ → ℕ
end_of runs j = get_or runs j 0 / 32

abbrev pub start_of : List ℕ → ℕ → ℕ
start_of runs zero = 0
start_of runs (suc j) = end_of runs j

abbrev pub level_of : List ℕ → ℕ → ℕ
level_of runs j = get_or runs j 0 % 32

-- k of each pixel of the first n runs
abbrev pub expand : List ℕ → ℕ → List ℕ
expand runs n = upto n (λ j. replicate (end_of runs j - start_of runs j) (level_of runs j))

-- n runs of at least a pixel each, w pixels in all
pub record Runs (runs : List ℕ) (n w : ℕ) : Type 0 where
  pub rises : (j : ℕ) → j < n → start_of runs j < end_of runs j
  pub last : start_of runs n ≡ w
