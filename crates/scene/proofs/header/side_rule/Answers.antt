-- `scene::header::side_rule` meets its contract.
use Rattle.scene.proofs.header.side_rule.Goals as goal

pub returns : goal.returns
returns c =
    cc
