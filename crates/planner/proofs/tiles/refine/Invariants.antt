use mathlib.Core.Path.{◌≡◌}
use Prim.Native.Nat.{◌-◌, ◌≤◌}
use lib.ListN.{length}
use Rattle.planner.specs.Runs.{rect_at}
use Rattle.planner.specs.Tilings.{Refined}
use Rattle.planner.proofs.tiles.refine.Given as goal

abbrev pub invariant-loop-k : goal.invariant-loop-k
invariant-loop-k l = (1 ≤ l.k) × ((length l.rs ≡ 4) × Refined (length l.boxes) (rect_at l.boxes) l.n (rect_at l.initial.rs) l.k (rect_at l.rs))

abbrev pub decreases-loop-k : goal.decreases-loop-k
decreases-loop-k l = 4 - l.k
