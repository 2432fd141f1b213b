-- `windings::add_edge` meets its contract: at each sample what the edge counts there is added to what stood there.
use mathlib.Core.Path.{◌≡◌}
use mathlib.Core.List.{[], ◌∷◌}
use lib.ListN.{get_or}
use lib.IntN.{pos, ◌+ℤ◌}
use Rattle.lists.specs.Lists.{tab, over}
use Rattle.reason.specs.Summed.{winding_at}
use Rattle.reason.proofs.windings.add_edge.Given as goal

abbrev pub invariant-loop-j : goal.invariant-loop-j
invariant-loop-j l = l.sums ≡ over (tab l.j (λ i. get_or l.initial.sums i (pos 0) +ℤ winding_at l.x l.y (l.e ∷ []) i)) l.initial.sums
