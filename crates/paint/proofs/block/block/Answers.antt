-- `block::block` meets its contract, kind by kind.
use Rattle.std.proofs.Common.{subst}
use Rattle.paint.specs.Circles.{HeldGradient}
use Rattle.paint.specs.Segments.{Sloped}
use Rattle.paint.specs.declared.AnyGradient.{AnyGradient}
use Rattle.paint.proofs.block.block.Goals as goal

pub linear_block-requires : goal.linear_block-requires
linear_block-requires c =
    let e = c.in-Linear.is in
    let h = subst (λ (g : AnyGradient). HeldGradient g c.args.ramp.now) e c.requires.held_gradient.0 in
    record { limited_points = (h.0, h.1, subst Sloped e c.requires.held_gradient.1); n_bound = c.requires.n_bound }

pub radial_block-requires : goal.radial_block-requires
radial_block-requires c =
    let e = c.in-Radial.is in
    let h = subst (λ (g : AnyGradient). HeldGradient g c.args.ramp.now) e c.requires.held_gradient.0 in
    record { limited_circle = (h.0, h.1, h.2, subst Sloped e c.requires.held_gradient.1); n_bound = c.requires.n_bound }

pub returns-in-Linear : goal.returns-in-Linear
returns-in-Linear c =
    rw c.in-Linear.is c.linear_block.ensures

pub returns-in-Radial : goal.returns-in-Radial
returns-in-Radial c =
    rw c.in-Radial.is c.radial_block.ensures
