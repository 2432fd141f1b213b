use mathlib.Core.Path.{◌≡◌}
use Rattle.lists.specs.Lists.{over}
use Rattle.planner.specs.Runs.{rect_at, numbers_of}
use Rattle.planner.proofs.rectangles.write.Given as goal

abbrev pub invariant-loop-k : goal.invariant-loop-k
invariant-loop-k l = l.out ≡ over (numbers_of l.k (rect_at l.s)) l.initial.out
