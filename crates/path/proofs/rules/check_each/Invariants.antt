-- `path::rules::check_each` meets its contract. The invariant: the walk is that over the segments passed, which are accepted.
use Rattle.std.proofs.Common.{◌≡◌, Ok}
use Rattle.path.specs.Segments.{walk_to, fault_to}
use Rattle.path.proofs.rules.check_each.Given as goal

abbrev pub invariant-loop-i : goal.invariant-loop-i
invariant-loop-i l = (l.walk ≡ walk_to l.segments l.coordinates l.i) × (fault_to l.m l.segments l.coordinates l.i ≡ Ok tt)
