-- `scene::fields::color` meets its contract.
use Rattle.scene.proofs.fields.color.Goals as goal

pub returns : goal.returns
returns c =
    cc
