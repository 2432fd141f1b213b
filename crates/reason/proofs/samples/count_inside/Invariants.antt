-- `samples::count_inside` meets its contract.
use mathlib.Core.Path.{◌≡◌}
use Prim.Native.Nat.{◌≤◌}
use lib.ListN.{get_or}
use lib.IntN.{pos}
use Rattle.lists.specs.Lists.{total}
use Rattle.coverage.specs.Winding.{inside_by, one_if}
use Rattle.reason.proofs.samples.count_inside.Given as goal

-- `samples::count_inside` meets its contract.
abbrev pub invariant-loop-j : goal.invariant-loop-j
invariant-loop-j l = (l.k ≤ l.j) × (l.k ≡ total l.j (λ i. one_if (inside_by l.nonzero (get_or l.sums i (pos 0)))))
