-- `spans::covered_from` meets its contract: no run before r has a sample that is covered.
use Prim.Native.Nat.{◌≤◌}
use lib.ListN.{length}
use Rattle.engine.specs.Spans.{Uncovered}
use Rattle.engine.proofs.spans.covered_from.Given as goal

-- `spans::covered_from` meets its contract: no run before r has a sample that is covered.
abbrev pub invariant-loop-r : goal.invariant-loop-r
invariant-loop-r l = Uncovered l.runs l.j l.r × (l.r ≤ length l.runs)
