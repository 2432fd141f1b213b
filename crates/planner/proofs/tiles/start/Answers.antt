use mathlib.Core.Path.{refl}
use lib.ListN.{length, set}
use Rattle.rect.proofs.Laws.{not_empty}
use Rattle.planner.specs.Runs.{rect_at}
use Rattle.planner.proofs.Splits.{area_put, start_one, start_two}
use Rattle.planner.proofs.tiles.start.Goals as goal

pub returns-in-Some : goal.returns-in-Some
returns-in-Some c =
    let a = c.args in
    let w = not_empty a.area c.requires.area_wide.0 in
    let p = area_put (length a.boxes.now) (rect_at a.boxes.now) a.area c.requires.area_value w a.rs.now (set a.rs.now 0 a.area)
    c.requires.area_wide.1 refl in
    start_two (length a.boxes.now) (rect_at a.boxes.now) a.area c.requires.area_value w (set a.rs.now 0 a.area) p.0 c.in-Some.cut
    c.in-Some.ensures p.1 _ _ c.split.ensures.value c.split.ensures.rs_after

pub returns-in-None : goal.returns-in-None
returns-in-None c =
    let a = c.args in
    let w = not_empty a.area c.requires.area_wide.0 in
    let p = area_put (length a.boxes.now) (rect_at a.boxes.now) a.area c.requires.area_value w a.rs.now (set a.rs.now 0 a.area)
    c.requires.area_wide.1 refl in
    start_one (length a.boxes.now) (rect_at a.boxes.now) a.area c.requires.area_value w (set a.rs.now 0 a.area) p.0 c.in-None.ensures
