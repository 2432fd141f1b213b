-- `scene::fields::matrix` meets its contract.
use Rattle.scene.proofs.fields.matrix.Goals as goal

pub returns : goal.returns
returns c =
    cc
