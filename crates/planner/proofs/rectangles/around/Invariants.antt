use mathlib.Core.Path.{◌≡◌}
use Rattle.lists.specs.Lists.{tab}
use Rattle.rect.specs.Rects.{smallest}
use Rattle.planner.specs.Runs.{rect_at}
use Rattle.planner.proofs.rectangles.around.Given as goal

abbrev pub invariant-loop-a : goal.invariant-loop-a
invariant-loop-a l = l.r ≡ smallest (tab l.a-index (rect_at l.s))
