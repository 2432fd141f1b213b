use native.Mathlib.Omega.{arith}
use lib.ListN.{length}
use Rattle.planner.specs.Runs.{rect_at}
use Rattle.planner.proofs.Splits.{refined_on}
use Rattle.planner.proofs.tiles.refine.Goals as goal

pub returns-then-more-k : goal.returns-then-more-k
returns-then-more-k c =
    let a = c.args in
    refined_on (length a.boxes.now) (rect_at a.boxes.now) a.n c.loop-k.k _ (rect_at a.rs.now) _ _ c.loop-k.invariant.1.1 c.refine_once-more.ensures

pub loop-k-preserved : goal.loop-k-preserved
loop-k-preserved c =
    let a = c.args in (
      omega (arith, c.loop-k.invariant.0, c.refine_once-more.ensures.grown),
      (
        omega (arith, c.refine_once-more.auto.rs, c.loop-k.invariant.1.0),
        refined_on (length a.boxes.now) (rect_at a.boxes.now) a.n c.loop-k.k _ (rect_at a.rs.now) _ _ c.loop-k.invariant.1.1 c.refine_once-more.ensures,
      ),
    )
