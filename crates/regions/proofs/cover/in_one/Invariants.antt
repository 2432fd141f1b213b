use mathlib.Core.Path.{◌≡◌}
use mathlib.Core.Bool.{false}
use Rattle.rect.specs.Rects.{inside}
use Rattle.regions.specs.Proposals.{proposed_at}
use Rattle.regions.specs.Runs.{some}
use Rattle.regions.proofs.cover.in_one.Given as goal

abbrev pub invariant-loop-k : goal.invariant-loop-k
invariant-loop-k l = some l.k (λ i. inside (proposed_at l.s i) l.x l.y) ≡ false
