-- `row::block_size` meets its contract.
use Rattle.std.proofs.Common.{subst}
use Rattle.paint.specs.Circles.{HeldGradient}
use Rattle.paint.specs.declared.AnyGradient.{AnyGradient}
use Rattle.paint.proofs.row.block_size.Goals as goal

pub squared_length-requires : goal.squared_length-requires
squared_length-requires c =
    (subst (λ (g : AnyGradient). HeldGradient g c.args.ramp.now) c.in-Linear.is c.requires).0
