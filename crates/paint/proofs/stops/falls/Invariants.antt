-- `stops::falls` meets its contract.
use Rattle.std.proofs.Common.{◌≡◌, ◌-◌, ◌≤◌}
use Rattle.paint.specs.Ramps.{falls_in}
use Rattle.paint.proofs.stops.falls.Given as goal

abbrev pub invariant-loop-i : goal.invariant-loop-i
invariant-loop-i l = (1 ≤ l.i) × (l.fell ≡ falls_in l.stops (l.i - 1)) × (l.i - 1 ≤ l.n - 1)
