-- `segments::color_in` meets its contract.
use Rattle.std.proofs.Common.{◌≤◌, ap, arith}
use Rattle.paint.specs.Segments.{segment_of}
use Rattle.paint.specs.declared.Segment.{Segment}
use Rattle.paint.proofs.segments.color_in.Goals as goal

-- k is not before the segment
from : (c : goal.After-byte_in-arg-1) → c.args.s.from ≤ c.args.k
from c = omega (arith, c.requires.0.low, c.requires.1)

pub byte_in-requires : goal.byte_in-requires
unfolding segment_of
byte_in-requires c =
    (from c, c.requires.2, c.requires.0.wide, ap (λ (s : Segment). s.r) c.requires.0.same)

pub byte_in-requires-2 : goal.byte_in-requires-2
unfolding segment_of
byte_in-requires-2 c =
    (from c.before.before, c.requires.2, c.requires.0.wide, ap (λ (s : Segment). s.g) c.requires.0.same)

pub byte_in-requires-3 : goal.byte_in-requires-3
unfolding segment_of
byte_in-requires-3 c =
    (from c.before.before.before.before, c.requires.2, c.requires.0.wide, ap (λ (s : Segment). s.b) c.requires.0.same)

pub byte_in-requires-4 : goal.byte_in-requires-4
unfolding segment_of
byte_in-requires-4 c =
    (from c.before.before.before.before.before.before, c.requires.2, c.requires.0.wide, ap (λ (s : Segment). s.a) c.requires.0.same)

pub returns : goal.returns
returns c =
    λ i. record {
      r = c.byte_in.ensures i;
      g = c.byte_in-2.ensures i;
      b = c.byte_in-3.ensures i;
      a = c.byte_in-4.ensures i;
    }
