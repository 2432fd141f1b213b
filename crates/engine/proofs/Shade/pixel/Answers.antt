-- `Shade::pixel` meets its contract, of a plain colour and of a gradient.
use mathlib.Core.Path.{◌∙◌}
use Rattle.engine.specs.Rows.{shade_at}
use Rattle.engine.proofs.Shade.pixel.Goals as goal

pub returns-in-Solid : goal.returns-in-Solid
unfolding shade_at
returns-in-Solid c =
    rw c.in-Solid.is

pub returns-in-Gradient : goal.returns-in-Gradient
unfolding shade_at
returns-in-Gradient c =
    c.pixel.ensures ∙ rw c.in-Gradient.is
