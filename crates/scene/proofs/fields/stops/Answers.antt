-- `scene::fields::stops` meets its contract.
use Rattle.scene.proofs.fields.stops.Goals as goal

pub returns : goal.returns
returns c =
    rw c.first_stop-first.ensures.0
