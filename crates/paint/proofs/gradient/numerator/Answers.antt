-- `gradient::numerator` meets its contract.
use Rattle.std.proofs.Common.{ℤ, pos, ◌+ℤ◌, ◌*ℤ◌, ap, ◌∙◌, ap₂, w64}
use Rattle.fixed.proofs.Means.{Num, need, keep, lit, add, mul}
use Rattle.fixed.proofs.Signed.{clean}
use Rattle.paint.specs.Gradient.{ramp_unit}
use Rattle.paint.proofs.Sizes.{sized}
use Rattle.paint.proofs.gradient.numerator.Goals as goal

abbrev sum : goal.After-along-2 → Num
sum c =
    add (sized 2749047504896 c.along.result tt c.along.ensures.1)
    (sized 2749047504896 c.along-2.result tt c.along-2.ensures.1)

abbrev product : goal.After-along-2 → Num
product c = mul (lit 65536) (keep w64 (sum c) tt)

pub along-requires : goal.along-requires
along-requires c =
    let p = c.args.p in
    let near = c.requires.limited_points in
    (rw (clean w64 1048576 p.x0 tt near.x0) near.x0, rw (clean w64 1048576 p.x1 tt near.x1) near.x1, c.requires.x_bound.0)

pub along-requires-2 : goal.along-requires-2
along-requires-2 c =
    let p = c.args.p in
    let near = c.requires.limited_points in
    (rw (clean w64 1048576 p.y0 tt near.y0) near.y0, rw (clean w64 1048576 p.y1 tt near.y1) near.y1, c.requires.x_bound.1)

pub overflow_add-result : goal.overflow_add-result
overflow_add-result c =
    need (sum c) tt

pub overflow_mul-result : goal.overflow_mul-result
overflow_mul-result c =
    need (product c) tt

pub returns : goal.returns
returns c =
    let p = c.args.p in
    let near = c.requires.limited_points in
    (keep w64 (product c) tt).same
    ∙ ap (λ (z : ℤ). pos ramp_unit *ℤ z)
    (ap₂ ◌+ℤ◌
    (rw (clean w64 1048576 p.x0 tt near.x0, clean w64 1048576 p.x1 tt near.x1) at c.along.ensures.0)
    (rw (clean w64 1048576 p.y0 tt near.y0, clean w64 1048576 p.y1 tt near.y1) at c.along-2.ensures.0))
