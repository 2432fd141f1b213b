use mathlib.Core.Path.{◌≡◌}
use Rattle.lists.specs.Lists.{tab}
use Rattle.rect.specs.Rects.{On, smallest}
use Rattle.regions.specs.Proposals.{proposed_at}
use Rattle.regions.proofs.painting.round.Given as goal

abbrev pub invariant-loop-k : goal.invariant-loop-k
invariant-loop-k l = (l.a ≡ smallest (tab l.k (proposed_at l.rectangles))) × On 1024 1024 l.a
