-- `gradient::quotient_at` meets its contract.
use Rattle.std.proofs.Common.{ℤ, nat_abs, ◌∙◌, ap₂, w64}
use Rattle.fixed.proofs.Signed.{back}
use Rattle.paint.specs.Buffers.{quotient_of, quotient_at}
use Rattle.paint.proofs.Slope.{squared_is, above}
use Rattle.paint.proofs.gradient.quotient_at.Goals as goal

pub numerator-requires : goal.numerator-requires
numerator-requires c =
    record { limited_points = c.requires.limited_points.0; x_bound = c.requires.x_bound }

pub squared_length-requires : goal.squared_length-requires
squared_length-requires c =
    c.requires.limited_points.0

pub quotient-requires : goal.quotient-requires
quotient-requires c =
    let d = c.squared_length in
    rw (back w64 d.result d.type_inv, d.ensures) (above (squared_is c.args.p) c.requires.limited_points.1)

pub returns : goal.returns
unfolding quotient_at
returns c =
    let d = c.squared_length in
    let n = c.numerator in
    c.quotient.ensures
    ∙ ap₂ (λ (a b : ℤ). quotient_of a (nat_abs b)) (back w64 n.result n.type_inv ∙ n.ensures) (back w64 d.result d.type_inv ∙ d.ensures)
