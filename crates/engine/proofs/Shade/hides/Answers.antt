-- `Shade::hides` meets its contract, of a plain colour and of a gradient.
use mathlib.Core.Path.{sym, subst, ◌∙◌}
use native.Mathlib.Omega.{arith}
use Rattle.engine.specs.declared.Shade.{Shade}
use Rattle.engine.specs.Rows.{Shaded, shade_at}
use Rattle.engine.proofs.Hiding.{solid_hides}
use Rattle.engine.proofs.Shade.hides.Goals as goal

pub hides-requires-in-Gradient : goal.hides-requires-in-Gradient
hides-requires-in-Gradient c =
    subst (λ (z : Shade). Shaded z c.args.ramp.now) c.in-Gradient.is c.requires

pub returns-in-Solid : goal.returns-in-Solid
returns-in-Solid c =
    λ t. let a = c.args in
    solid_hides a.mode a.self c.in-Solid.p a.ramp.now c.in-Solid.is (omega arith) (sym c.hides.ensures ∙ t)

pub returns-in-Gradient : goal.returns-in-Gradient
unfolding shade_at
returns-in-Gradient c =
    rw c.in-Gradient.is c.hides-in-Gradient.ensures
