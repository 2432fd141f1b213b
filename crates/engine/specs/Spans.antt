-- What lets a gradient's row be drawn for less: pixels that are not covered. A reviewer of the paper need not read it.
use Rattle.std.specs.Prelude.{ℕ, ◌≤◌, ◌<◌, ◌≡◌, List}
use Rattle.runs.specs.Runs.{level_of}

-- of no run from i to before e a sample is covered
abbrev pub Uncovered : List ℕ → ℕ → ℕ → Type 0
Uncovered runs i e = (i ≤ e) × ((j : ℕ) → i ≤ j → j < e → level_of runs j ≡ 0)
