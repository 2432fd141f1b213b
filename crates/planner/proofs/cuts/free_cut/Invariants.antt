use lib.ListN.{length}
use Rattle.planner.specs.Runs.{rect_at}
use Rattle.planner.specs.Tilings.{Searched}
use Rattle.planner.proofs.cuts.free_cut.Given as goal

abbrev pub invariant-loop-b : goal.invariant-loop-b
invariant-loop-b l = Searched (length l.boxes) (rect_at l.boxes) l.area l.upright l.b-index l.best
