-- `blend::spread_row` meets its contract: the pixels before i are stored, and the others are as they were. Assumes nothing.
use lib.ListN.{get_or}
use Rattle.raster.specs.Rows.{Stored}
use Rattle.blend.specs.Spans.{four_of}
use Rattle.blend.proofs.bytewise.spread_row.Given as goal

-- `blend::spread_row` meets its contract: the pixels before i are stored, and the others are as they were. Assumes nothing.
abbrev pub invariant-loop-i : goal.invariant-loop-i
invariant-loop-i l = Stored (λ j. four_of (get_or l.mask j 0)) l.initial.wide l.i l.wide
