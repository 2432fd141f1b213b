-- `scene::fields::radial_points` meets its contract.
use Rattle.scene.proofs.fields.radial_points.Goals as goal

pub returns : goal.returns
returns c =
    cc
