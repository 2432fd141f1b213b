-- `coverage::cover::coverage_runs` meets its contract. Assumes nothing.
use mathlib.Core.Path.{refl}
use Rattle.coverage.proofs.cover.coverage_runs.Goals as goal

pub returns-then-n-gt0 : goal.returns-then-n-gt0
returns-then-n-gt0 c =
    let between = c.runs_between-n in
    let found = between.ensures.runs c.if-n-gt0.true in
    record { scratch_unchanged = refl; runs = found.0; result_after = found.1 }
