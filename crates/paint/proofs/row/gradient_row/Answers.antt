-- `row::gradient_row` meets its contract, kind by kind.
use Rattle.std.proofs.Common.{subst}
use Rattle.paint.specs.Circles.{HeldGradient}
use Rattle.paint.specs.declared.AnyGradient.{AnyGradient}
use Rattle.paint.proofs.row.gradient_row.Goals as goal

pub linear_row-requires : goal.linear_row-requires
linear_row-requires c =
    record {
      limited_points = subst (λ (g : AnyGradient). HeldGradient g c.args.ramp.now) c.in-Linear.is c.requires.held_gradient;
      n_bound = c.requires.n_bound;
    }

pub radial_row-requires : goal.radial_row-requires
radial_row-requires c =
    record {
      limited_circle = subst (λ (g : AnyGradient). HeldGradient g c.args.ramp.now) c.in-Radial.is c.requires.held_gradient;
      n_bound = c.requires.n_bound;
    }

pub returns-in-Linear : goal.returns-in-Linear
returns-in-Linear c =
    rw c.in-Linear.is c.linear_row.ensures

pub returns-in-Radial : goal.returns-in-Radial
returns-in-Radial c =
    rw c.in-Radial.is c.radial_row.ensures
