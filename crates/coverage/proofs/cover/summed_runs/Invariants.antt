-- `coverage::cover::summed_runs` meets its contract. Assumes nothing.
use mathlib.Core.Path.{◌≡◌}
use Prim.Native.Nat.{◌-◌, ◌≤◌}
use lib.ListN.{length}
use Rattle.lists.specs.Lists.{tab}
use Rattle.runs.specs.Runs.{expand, Runs}
use Rattle.path.specs.Stored.{edges_of}
use Rattle.coverage.proofs.Window.{k_of}
use Rattle.coverage.proofs.cover.summed_runs.Given as goal

-- `coverage::cover::summed_runs` meets its contract. Assumes nothing.
abbrev pub invariant-loop-i : goal.invariant-loop-i
invariant-loop-i l =
    (l.i ≤ length l.initial.marks)
    × (l.scratch ≡ l.initial.scratch)
    × (length l.marks ≡ length l.initial.marks)
    × (length l.runs ≡ length l.initial.runs)
    × Runs l.runs l.n l.i
    × (expand l.runs l.n ≡ tab l.i (k_of (edges_of l.initial.scratch l.line.edges) l.line.nonzero l.line.x l.line.y))

abbrev pub decreases-loop-i : goal.decreases-loop-i
decreases-loop-i l = length l.initial.marks - l.i
