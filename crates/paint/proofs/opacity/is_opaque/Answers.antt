-- `opacity::is_opaque` meets its contract: a gradient whose stops are opaque is.
use Rattle.std.proofs.Common.{◌≡◌, ℕ, List, subst}
use Rattle.paint.specs.Buffers.{HeldRamp}
use Rattle.paint.specs.Circles.{HeldGradient}
use Rattle.paint.specs.declared.AnyGradient.{AnyGradient}
use Rattle.paint.specs.declared.AnyGradient.TheVariants.{Linear, Radial}
use Rattle.paint.specs.declared.LinearGradient.{LinearGradient}
use Rattle.paint.specs.declared.RadialGradient.{RadialGradient}
use Rattle.paint.proofs.Opaque.{color_opaque}
use Rattle.paint.proofs.opacity.is_opaque.Goals as goal

linear_held : (g : AnyGradient) (l : LinearGradient) (ramp : List ℕ) → g ≡ Linear l → HeldGradient g ramp → HeldRamp ramp l.count
linear_held g l ramp e h = (subst (λ (g : AnyGradient). HeldGradient g ramp) e h).1

radial_held : (g : AnyGradient) (r : RadialGradient) (ramp : List ℕ) → g ≡ Radial r → HeldGradient g ramp → HeldRamp ramp r.count
radial_held g r ramp e h = (subst (λ (g : AnyGradient). HeldGradient g ramp) e h).2

pub has_opaque_stops-requires : goal.has_opaque_stops-requires
has_opaque_stops-requires c = linear_held _ _ _ c.in-Linear.is c.requires

pub has_opaque_stops-requires-in-Radial : goal.has_opaque_stops-requires-in-Radial
has_opaque_stops-requires-in-Radial c = radial_held _ _ _ c.in-Radial.is c.requires

pub returns-in-Linear : goal.returns-in-Linear
returns-in-Linear c =
    let held = linear_held c.args.g c.in-Linear.l c.args.ramp.now c.in-Linear.is c.requires in
    rw c.in-Linear.is (λ t x y. color_opaque _ _ held (c.has_opaque_stops.ensures t) _ _ _)

pub returns-in-Radial : goal.returns-in-Radial
returns-in-Radial c =
    let held = radial_held c.args.g c.in-Radial.r c.args.ramp.now c.in-Radial.is c.requires in
    rw c.in-Radial.is (λ t x y. color_opaque _ _ held (c.has_opaque_stops-in-Radial.ensures t) _ _ _)
