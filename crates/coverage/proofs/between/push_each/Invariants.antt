-- `coverage::between::push_each` meets its contract. Assumes nothing.
use mathlib.Core.Path.{◌≡◌}
use lib.ListN.{length}
use Rattle.lists.specs.Lists.{tab}
use Rattle.runs.specs.Runs.{expand, Runs}
use Rattle.coverage.specs.Between.{level_at}
use Rattle.coverage.proofs.between.push_each.Given as goal

-- `coverage::between::push_each` meets its contract. Assumes nothing.
abbrev pub invariant-loop-i : goal.invariant-loop-i
invariant-loop-i l =
    (length l.runs ≡ length l.initial.runs) × Runs l.runs l.m l.i × (expand l.runs l.m ≡ tab l.i (level_at l.lo l.hi))
