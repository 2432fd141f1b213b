-- `TintedGradient::hides` meets its contract: an opaque gradient as it is, under a mode under which opaque pixels hide.
use mathlib.Core.Path.{sym, subst, ◌∙◌}
use lib.Dec.{T}
use Rattle.engine.proofs.Hiding.{plain_hides}
use Rattle.engine.proofs.TintedGradient.hides.Goals as goal

pub returns-then-hides : goal.returns-then-hides
returns-then-hides c =
    λ t. let a = c.args in
    plain_hides a.mode a.self a.ramp.now c.in-None.is (sym c.hides.ensures ∙ c.if-hides.true)
    (c.is_opaque.ensures t)

pub returns-else-hides : goal.returns-else-hides
returns-else-hides c =
    λ t. absurd (subst T (sym t) tt)

pub returns-in-Some : goal.returns-in-Some
returns-in-Some c =
    λ t. absurd (subst T (sym t) tt)
