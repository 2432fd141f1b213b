-- `ramp::color_between` meets its contract: what is left to search gives the colour that the whole search gives.
use Rattle.std.proofs.Common.{◌≡◌, ◌-◌, ◌*◌, ◌≤◌, get_or}
use Rattle.paint.specs.Ramps.{between}
use Rattle.paint.specs.Buffers.{stop_at, stops_from}
use Rattle.paint.proofs.ramp.color_between.Given as goal

abbrev pub invariant-loop-j : goal.invariant-loop-j
invariant-loop-j l =
    (1 ≤ l.j)
    × (l.j ≤ l.count)
    × (get_or l.ramp ((l.j - 1) * 2) 0 ≤ l.t)
    × (between (stop_at l.ramp 0) (stops_from l.ramp 1 (l.count - 1)) l.t ≡ between (stop_at l.ramp (l.j - 1)) (stops_from l.ramp l.j (l.count - l.j)) l.t)
