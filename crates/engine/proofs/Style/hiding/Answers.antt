-- `Style::hiding` meets its contract: a paint that hides is blended as under Src.
use mathlib.Core.Path.{refl}
use Rattle.engine.specs.Rows.{shade_at}
use Rattle.engine.proofs.Paints.{hiding_as_src}
use Rattle.engine.proofs.Style.hiding.Goals as goal

pub returns-then-hides : goal.returns-then-hides
returns-then-hides c =
    let a = c.args in
    record { value = refl; same_blend = hiding_as_src a.self.mode (shade_at a.self.shade a.ramp.now) (c.hides.ensures c.if-hides.true) }

pub returns : goal.returns
returns c =
    record { value = refl; same_blend = λ x y k m p u. refl }
