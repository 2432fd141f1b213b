-- `windings::add_path` meets its contract: the sums so far are those of the segments passed.
use mathlib.Core.Path.{◌≡◌}
use Rattle.path.specs.Segments.{walk_to}
use Rattle.path.specs.Curves.{edges_to}
use Rattle.reason.specs.Summed.{wound}
use Rattle.reason.proofs.windings.add_path.Given as goal

abbrev pub invariant-loop-i : goal.invariant-loop-i
invariant-loop-i l =
    (l.walk ≡ walk_to l.segments l.coordinates l.i) × (l.sums ≡ wound l.x l.y l.initial.sums (edges_to l.m l.segments l.coordinates l.i))
