-- `scene::fields::coordinates` meets its contract.
use Rattle.scene.proofs.fields.coordinates.Goals as goal

pub returns : goal.returns
returns c =
    rw c.coordinates_at-first.ensures.0
