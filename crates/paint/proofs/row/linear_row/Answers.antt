-- `row::linear_row` meets its contract.
use Rattle.std.proofs.Common.{ap, ◌∙◌, arith, w64, of_z}
use Rattle.paint.specs.Buffers.{stops_in}
use Rattle.paint.proofs.Slope.{one_x}
use Rattle.paint.proofs.Sizes.{same_bits}
use Rattle.paint.proofs.Walk.{flat_run}
use Rattle.paint.proofs.row.linear_row.Goals as goal

pub linear_pixel-c-requires : goal.linear_pixel-c-requires
linear_pixel-c-requires c =
    record { limited_points = c.requires.limited_points; x_bound = (omega arith, c.requires.n_bound.1) }

pub fill_row-requires : goal.fill_row-requires
fill_row-requires c =
    c.requires.n_bound.2

pub returns-then-p : goal.returns-then-p
returns-then-p c =
    let a = c.args in
    let p = a.g.points in
    let limited = c.requires.limited_points.0 in
    let pixel = c.linear_pixel-c in
    c.fill_row.ensures
    ∙ flat_run a.g (stops_in a.ramp.now a.g.count) a.x a.y a.n pixel.result
    (same_bits 1048576 p.x0 p.x1 tt limited.x0 limited.x1 c.if-p.true)
    pixel.ensures

pub sloped_row-requires : goal.sloped_row-requires
sloped_row-requires c =
    record { held_gradient = (c.requires.limited_points, λ e. c.if-p.false (ap (of_z w64) (one_x c.args.g.points e))); n_bound = c.requires.n_bound }

pub returns : goal.returns
returns c =
    c.sloped_row.ensures
