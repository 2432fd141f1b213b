-- `radial_row::padded_positions` meets its contract: D is not 0, and each turn stores the position of its place.
use Rattle.paint.specs.Segments.{position_of}
use Rattle.paint.proofs.Onward.{Walked}
use Rattle.paint.proofs.radial_row.padded_positions.Given as goal

abbrev pub invariant-loop-i : goal.invariant-loop-i
invariant-loop-i l = Walked position_of l.d l.initial.p l.initial.ks l.i l.p l.ks
