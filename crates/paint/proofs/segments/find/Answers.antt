-- `segments::find` meets its contract.
use Rattle.std.proofs.Common.{◌≡◌, ◌+◌, ◌-◌, ap, arith}
use Rattle.paint.specs.Segments.{segment_of}
use Rattle.paint.specs.declared.Segment.{Segment}
use Rattle.paint.proofs.Serving.{serves_first, serves_last}
use Rattle.paint.proofs.segments.find.Goals as goal

pub returns-then-k-eq0 : goal.returns-then-k-eq0
unfolding segment_of
returns-then-k-eq0 c =
    let a = c.args in
    let low = ap (λ (s : Segment). s.low) c.between.ensures in
    let to = ap (λ (s : Segment). s.to) c.between.ensures in (
      serves_first a.ramp.now a.count c.requires.0 c.between.result _ c.stop_color-c.ensures c.between.ensures,
      omega (arith, low),
      omega (arith, to, c.if-k-eq0.true),
    )

pub returns-then-k-eq-BEHIND : goal.returns-then-k-eq-BEHIND
unfolding segment_of
returns-then-k-eq-BEHIND c =
    let a = c.args in
    let low = ap (λ (s : Segment). s.low) c.between-then-k-eq-BEHIND.ensures in
    let to = ap (λ (s : Segment). s.to) c.between-then-k-eq-BEHIND.ensures in (
      serves_last a.ramp.now a.count c.requires.0 c.between-then-k-eq-BEHIND.result _ c.stop_color-c-then-k-eq-BEHIND.ensures
          c.between-then-k-eq-BEHIND.ensures,
      omega (arith, low, c.if-k-eq-BEHIND.true),
      omega (arith, to, c.if-k-eq-BEHIND.true),
    )

pub returns : goal.returns
returns c =
    let k : c.args.k - 1 + 1 ≡ c.args.k = omega (arith, c.if-k-eq0.false) in
    rw k at c.search.ensures
