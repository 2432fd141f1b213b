use Rattle.rect.proofs.Laws.{not_empty}
use lib.ListN.{length}
use Rattle.planner.specs.Runs.{rect_at}
use Rattle.planner.proofs.Splits.{divided_on}
use Rattle.planner.proofs.tiles.divide.Goals as goal

pub returns : goal.returns
returns c =
    let a = c.args in
    divided_on (length a.boxes.now) (rect_at a.boxes.now) a.area c.requires.area_value (not_empty a.area c.requires.area_wide.0) _ _ _ _ c.start-n.ensures
    c.refine.ensures
