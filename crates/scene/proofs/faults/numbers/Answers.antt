-- `scene::faults::numbers` meets its contract.
use mathlib.Core.Path.{◌∙◌}
use Rattle.scene.proofs.Sizes.{numbers_patterns}
use Rattle.scene.proofs.faults.numbers.Goals as goal

pub returns : goal.returns
returns c =
    let a = c.args in
    c.patterns.ensures ∙ numbers_patterns a.d.now a.at a.n
