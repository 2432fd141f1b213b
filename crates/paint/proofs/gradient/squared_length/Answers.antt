-- `gradient::squared_length` meets its contract.
use Rattle.std.proofs.Common.{◌+ℤ◌, ◌∙◌, ap₂, w64}
use Rattle.fixed.proofs.Means.{Num, need, keep, add}
use Rattle.fixed.proofs.Signed.{clean}
use Rattle.paint.proofs.Sizes.{sized}
use Rattle.paint.proofs.gradient.squared_length.Goals as goal

abbrev sum : goal.After-square-2 → Num
sum c =
    add (sized 4398046511104 c.square.result tt c.square.ensures.1)
    (sized 4398046511104 c.square-2.result tt c.square-2.ensures.1)

pub square-requires : goal.square-requires
square-requires c =
    let p = c.args.p in
    let near = c.requires in
    (rw (clean w64 1048576 p.x1 tt near.x1) near.x1, rw (clean w64 1048576 p.x0 tt near.x0) near.x0)

pub square-requires-2 : goal.square-requires-2
square-requires-2 c =
    let p = c.args.p in
    let near = c.requires in
    (rw (clean w64 1048576 p.y1 tt near.y1) near.y1, rw (clean w64 1048576 p.y0 tt near.y0) near.y0)

pub overflow_add-result : goal.overflow_add-result
overflow_add-result c =
    need (sum c) tt

pub returns : goal.returns
returns c =
    let p = c.args.p in
    let near = c.requires in
    (keep w64 (sum c) tt).same
    ∙ ap₂ ◌+ℤ◌
    (rw (clean w64 1048576 p.x1 tt near.x1, clean w64 1048576 p.x0 tt near.x0) at c.square.ensures.0)
    (rw (clean w64 1048576 p.y1 tt near.y1, clean w64 1048576 p.y0 tt near.y0) at c.square-2.ensures.0)
