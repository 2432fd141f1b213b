use Prim.Native.Nat.{◌-◌, ◌<◌}
use native.Mathlib.Omega.{arith}
use lib.ListN.{length, take, length-take}
use Rattle.planner.specs.Runs.{rect_at}
use Rattle.planner.proofs.Splits.{split_refined}
use Rattle.planner.proofs.tiles.refine_once.Goals as goal

pub returns-in-Some : goal.returns-in-Some
returns-in-Some c =
    let a = c.args in
    let cut = c.in-Some.cut in
    let h : cut.part < length (take (a.n - 0) a.rs.now) = c.in-Some.ensures in
    split_refined (length a.boxes.now) (rect_at a.boxes.now) a.rs.now a.n cut.part cut.upright cut.at
    (omega (arith, length-take (a.n - 0) a.rs.now, h)) (omega (arith, c.requires)) _ _ (omega (arith, c.requires))
    c.split.ensures.value c.split.ensures.rs_after
