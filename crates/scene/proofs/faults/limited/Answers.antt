-- `scene::faults::limited` meets its contract.
use mathlib.Core.Path.{◌∙◌}
use Rattle.scene.proofs.Sizes.{limited_patterns}
use Rattle.scene.proofs.faults.limited.Goals as goal

pub returns : goal.returns
returns c =
    let power = c.power_pattern in
    let a = c.args in
    c.patterns.ensures ∙ limited_patterns a.d.now a.at a.n a.log power.result c.requires.0 power.ensures
