-- `scene::fields::is_radial` meets its contract.
use Rattle.scene.proofs.fields.is_radial.Goals as goal

pub returns : goal.returns
returns c =
    rw c.paint_type.ensures
