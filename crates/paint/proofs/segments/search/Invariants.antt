-- `segments::search` meets its contract: the stops before j are passed for every t from low on.
use Rattle.std.proofs.Common.{◌-◌, ◌*◌, ◌≤◌, get_or}
use Rattle.paint.specs.Segments.{Passed}
use Rattle.paint.proofs.segments.search.Given as goal

abbrev pub invariant-loop-j : goal.invariant-loop-j
invariant-loop-j l =
    (1 ≤ l.j) × (l.j ≤ l.count) × (l.low ≤ l.t) × (get_or l.ramp ((l.j - 1) * 2) 0 ≤ l.low) × Passed l.ramp l.count l.j l.low
