-- `windings::add_edges` meets its contract.
use mathlib.Core.Path.{◌≡◌}
use Rattle.path.specs.Stored.{edges_of}
use Rattle.reason.specs.Summed.{wound}
use Rattle.reason.proofs.windings.add_edges.Given as goal

abbrev pub invariant-loop-i : goal.invariant-loop-i
invariant-loop-i l = l.sums ≡ wound l.x l.y l.initial.sums (edges_of l.edges l.i)
