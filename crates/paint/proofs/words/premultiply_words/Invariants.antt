-- `words::premultiply_words` meets its contract: the colours before i are premultiplied.
use Rattle.std.proofs.Common.{get_or}
use Rattle.color.specs.Channels.{premultiplied}
use Rattle.paint.specs.Buffers.{unpacked}
use Rattle.paint.specs.Segments.{Begun}
use Rattle.paint.proofs.words.premultiply_words.Given as goal

abbrev pub invariant-loop-i : goal.invariant-loop-i
invariant-loop-i l = Begun (λ j. premultiplied (unpacked (get_or l.initial.ws j 0))) l.initial.ws l.i l.ws
