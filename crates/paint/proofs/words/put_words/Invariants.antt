-- `words::put_words` meets its contract: the pixels before i are stored.
use Rattle.std.proofs.Common.{get_or}
use Rattle.raster.specs.Rows.{Stored}
use Rattle.paint.specs.Buffers.{unpacked}
use Rattle.paint.proofs.words.put_words.Given as goal

abbrev pub invariant-loop-i : goal.invariant-loop-i
invariant-loop-i l = Stored (λ j. unpacked (get_or l.ws j 0)) l.initial.row l.i l.row
