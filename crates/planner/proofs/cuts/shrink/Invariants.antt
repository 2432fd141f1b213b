use mathlib.Core.Path.{◌≡◌}
use Rattle.lists.specs.Lists.{tab}
use Rattle.rect.specs.Rects.{meet_of, smallest}
use Rattle.planner.specs.Runs.{rect_at}
use Rattle.planner.proofs.cuts.shrink.Given as goal

abbrev pub invariant-loop-b : goal.invariant-loop-b
invariant-loop-b l = l.r ≡ smallest (tab l.b-index (λ i. meet_of l.a (rect_at l.boxes i)))
