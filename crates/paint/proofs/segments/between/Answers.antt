-- `segments::between` meets its contract.
use Rattle.std.proofs.Common.{arith}
use Rattle.paint.specs.Segments.{segment_of}
use Rattle.paint.proofs.segments.between.Goals as goal

pub line-requires : goal.line-requires
line-requires c =
    (omega arith, omega arith, c.reciprocal-q.ensures)

pub line-requires-2 : goal.line-requires-2
line-requires-2 c =
    (omega arith, omega arith, c.reciprocal-q.ensures)

pub line-requires-3 : goal.line-requires-3
line-requires-3 c =
    (omega arith, omega arith, c.reciprocal-q.ensures)

pub line-requires-4 : goal.line-requires-4
line-requires-4 c =
    (omega arith, omega arith, c.reciprocal-q.ensures)

pub returns : goal.returns
unfolding segment_of
returns c =
    let r = c.line in
    let g = c.line-2 in
    let b = c.line-3 in
    let a = c.line-4 in
    let s = c.args in
    λ i. record {
      low = s.low;
      from = s.from;
      to = s.to;
      left = s.left;
      right = s.right;
      r = r.ensures i;
      g = g.ensures i;
      b = b.ensures i;
      a = a.ensures i;
    }
