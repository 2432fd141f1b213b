-- `row::linear_pixel` meets its contract.
use Rattle.std.proofs.Common.{ap, ◌∙◌, w64}
use Rattle.fixed.proofs.Signed.{back}
use Rattle.paint.specs.Paints.{gradient_color}
use Rattle.paint.specs.Buffers.{stops_in}
use Rattle.paint.proofs.row.linear_pixel.Goals as goal

pub linear_t-requires : goal.linear_t-requires
linear_t-requires c =
    record { limited_points = c.requires.limited_points.0; x_bound = c.requires.x_bound }

pub gradient_color-requires : goal.gradient_color-requires
gradient_color-requires c =
    c.requires.limited_points.1

pub returns : goal.returns
returns c =
    let a = c.args in
    let t = c.linear_t in
    c.gradient_color.ensures
    ∙ ap (gradient_color a.g.spread a.g.premultiply (stops_in a.ramp.now a.g.count)) (back w64 t.result t.type_inv ∙ t.ensures)
