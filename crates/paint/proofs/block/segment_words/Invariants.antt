-- `block::segment_words` meets its contract: the colours before i are written, and the segment has the ramp's colours.
use Rattle.std.proofs.Common.{get_or}
use Rattle.paint.specs.Ramps.{ramp_at}
use Rattle.paint.specs.Buffers.{stops_in}
use Rattle.paint.specs.Segments.{Serves, Begun, t_at}
use Rattle.paint.proofs.block.segment_words.Given as goal

abbrev pub invariant-loop-i : goal.invariant-loop-i
invariant-loop-i l = Serves l.ramp l.count l.s
    × Begun (λ j. ramp_at (stops_in l.ramp l.count) (t_at (get_or l.initial.ks j 0))) l.initial.ks l.i l.ks
