use lib.ListN.{length}
use Rattle.rect.proofs.Laws.{not_empty}
use Rattle.planner.specs.Runs.{rect_at}
use Rattle.planner.proofs.Searches.{opening_found}
use Rattle.planner.proofs.cuts.opening_cut.Goals as goal

pub returns : goal.returns
returns c =
    let a = c.args in
    opening_found (length a.boxes.now) (rect_at a.boxes.now) a.area c.requires.area_value (not_empty a.area c.requires.area_wide)
    c.free_cut-columns.result c.free_cut-rows.result _ c.free_cut-columns.ensures c.free_cut-rows.ensures c.better.ensures
