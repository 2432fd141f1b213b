-- `scene::fields::linear_points` meets its contract.
use Rattle.scene.proofs.fields.linear_points.Goals as goal

pub returns : goal.returns
returns c =
    cc
