-- `opacity::has_opaque_stops` meets its contract: the stops before i are opaque.
use Rattle.paint.specs.Opaque.{OpaqueStops}
use Rattle.paint.proofs.opacity.has_opaque_stops.Given as goal

abbrev pub invariant-loop-i : goal.invariant-loop-i
invariant-loop-i l = OpaqueStops l.ramp l.i
