-- `segments::search` meets its contract: the stops before j are passed for every t from low on.
use Rattle.std.proofs.Common.{◌≡◌, ◌+◌, ◌-◌, ◌*◌, ◌≤◌, get_or, ap, arith}
use Rattle.paint.specs.Segments.{segment_of}
use Rattle.paint.specs.declared.Segment.{Segment}
use Rattle.paint.proofs.Serving.{passed_none, passed_more, serves_between, serves_end}
use Rattle.paint.proofs.segments.search.Goals as goal
use Rattle.paint.proofs.segments.search.Tie as tie
use Rattle.paint.proofs.segments.search.Lts as lts
use Rattle.paint.proofs.segments.search.Reads as reads

-- a read of a stop's offset, and that 1 more fits
offset : (c : lts.Then1 tie.the-claims reads.Pre reads.Post goal.the-invariant-loop-j goal.the-decreases-loop-j)
    → get_or c.args.ramp.now ((c.loop-j.j - 1) * 2) 0 ≤ 65536
offset c =
    c.requires.0.below (c.loop-j.j - 1) (omega (arith, c.loop-j.invariant.0, c.loop-j.invariant.1))

next : (c : lts.Then1 tie.the-claims reads.Pre reads.Post goal.the-invariant-loop-j goal.the-decreases-loop-j)
    → get_or c.args.ramp.now (c.loop-j.j * 2) 0 ≤ 65536
next c =
    c.requires.0.below c.loop-j.j (omega arith)

pub loop-j-init : goal.loop-j-init
loop-j-init c =
    (omega arith, omega (arith, c.requires.0.some), omega arith, omega (arith, c.requires.0.first), passed_none _ _ c.requires.0)

pub overflow_add-ramp : goal.overflow_add-ramp
overflow_add-ramp c =
    omega (arith, offset c.before.before)

pub overflow_add-x : goal.overflow_add-x
overflow_add-x c =
    omega (arith, next c.before.before)

pub between-requires : goal.between-requires
between-requires c =
    (omega (arith, c.if-t-x.true, c.loop-j.invariant.2, c.loop-j.invariant.3), omega (arith, next c.before.before.before.before))

pub returns-then-t-x : goal.returns-then-t-x
unfolding segment_of
returns-then-t-x c =
    let a = c.args in
    let l = c.loop-j in
    let low = ap (λ (s : Segment). s.low) c.between.ensures in
    let to = ap (λ (s : Segment). s.to) c.between.ensures in (
      serves_between a.ramp.now a.count c.requires.0 c.between.result l.j l.low l.invariant.4 _ _ (omega arith) l.invariant.3
          (omega (arith, c.if-t-x.true, l.invariant.2))
          c.stop_color.ensures
          c.stop_color-then-t-x.ensures
          c.between.ensures,
      omega (arith, low, l.invariant.2),
      omega (arith, to, c.if-t-x.true),
    )

pub loop-j-preserved : goal.loop-j-preserved
loop-j-preserved c =
    let a = c.args in
    let l = c.loop-j in
    let e : l.j + 1 - 1 ≡ l.j = omega arith in
    let g = c.max-low.ensures in (
      omega arith,
      omega arith,
      omega (arith, g, c.if-t-x.false, l.invariant.2),
      rw e (omega (arith, g)),
      passed_more a.ramp.now a.count c.requires.0 l.j l.low c.max-low.result l.invariant.4 (omega arith) (omega (arith, g))
          (omega (arith, g)),
    )

pub between-requires-2 : goal.between-requires-2
between-requires-2 c =
    (omega (arith, c.loop-j.invariant.2, c.requires.1), omega arith)

pub returns : goal.returns
unfolding segment_of
returns c =
    let a = c.args in
    let l = c.loop-j in
    let e : l.j ≡ a.count = omega arith in
    let low = ap (λ (s : Segment). s.low) c.between-2.ensures in
    let to = ap (λ (s : Segment). s.to) c.between-2.ensures in (
      serves_end a.ramp.now a.count c.requires.0 c.between-2.result l.j l.low l.invariant.4 _ (omega arith)
          (omega (arith, l.invariant.2, c.requires.1))
          (rw e c.stop_color-c.ensures)
          c.between-2.ensures,
      omega (arith, low, l.invariant.2),
      omega (arith, to, c.requires.1),
    )
