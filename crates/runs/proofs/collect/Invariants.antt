-- `runs::collect` meets its contract.
use mathlib.Core.Path.{◌≡◌}
use Prim.Native.Nat.{◌-◌, ◌≤◌}
use lib.ListN.{length, get_or}
use Rattle.lists.specs.Lists.{tab}
use Rattle.runs.specs.Runs.{expand, Runs}
use Rattle.runs.proofs.collect.Given as goal

-- `runs::collect` meets its contract.
abbrev pub invariant-loop-i : goal.invariant-loop-i
invariant-loop-i l = (l.i ≤ length l.row) × (length l.runs ≡ length l.initial.runs) × Runs l.runs l.n l.i
    × (expand l.runs l.n ≡ tab l.i (λ j. get_or l.row j 0))

abbrev pub decreases-loop-i : goal.decreases-loop-i
decreases-loop-i l = length l.row - l.i
