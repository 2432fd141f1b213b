-- `scene::fields::transform` meets its contract.
use Rattle.scene.proofs.fields.transform.Goals as goal

pub returns : goal.returns
returns c =
    cc
