-- `spans::GradientRow::blend` meets its contract: points with one x are one colour along the row, and any other gradient goes part after part.
use mathlib.Core.Path.{subst}
use Rattle.paint.specs.declared.AnyGradient.{AnyGradient}
use Rattle.paint.specs.Circles.{HeldGradient}
use Rattle.paint.proofs.Sizes.{same_bits}
use Rattle.engine.proofs.spans.GradientRow.blend.Goals as goal

pub blend_level-requires : goal.blend_level-requires
blend_level-requires c =
    let l = c.in-Linear.l in
    let s = c.args.self.now in
    let held = subst (λ (z : AnyGradient). HeldGradient z s.ramp.now) c.in-Linear.is s.held in
    record { linear = (c.in-Linear.is, same_bits 1048576 l.points.x0 l.points.x1 tt held.0.x0 held.0.x1 c.if-p.true); row_len = c.requires.0 }
