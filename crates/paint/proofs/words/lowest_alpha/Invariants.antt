-- `words::lowest_alpha` meets its contract: no alpha before i is below low.
use Rattle.paint.specs.Segments.{Covering}
use Rattle.paint.proofs.words.lowest_alpha.Given as goal

abbrev pub invariant-loop-i : goal.invariant-loop-i
invariant-loop-i l = Covering l.low l.i l.ws
