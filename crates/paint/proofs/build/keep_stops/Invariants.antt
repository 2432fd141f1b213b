-- `build::keep_stops` meets its contract: what is kept of the stops before i is written.
use Rattle.std.proofs.Common.{◌≡◌, ◌+◌, ◌≤◌, map, length}
use Rattle.lists.specs.Lists.{upto}
use Rattle.paint.specs.Ramps.{kept_at, prepared}
use Rattle.paint.specs.Buffers.{Written, with_first}
use Rattle.paint.proofs.build.keep_stops.Given as goal

abbrev pub invariant-loop-i : goal.invariant-loop-i
invariant-loop-i l =
    (l.count ≤ l.i + 1) × (length l.ramp ≡ length l.initial.ramp)
    × Written l.initial.ramp l.ramp l.count (with_first (map (prepared l.premultiply) (upto l.i (kept_at l.stops))))
