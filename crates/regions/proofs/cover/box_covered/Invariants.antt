use mathlib.Core.Path.{◌≡◌}
use mathlib.Core.Bool.{true}
use Rattle.regions.specs.Pixels.{every}
use Rattle.regions.specs.Proposals.{proposed_at}
use Rattle.regions.specs.Runs.{column_covered}
use Rattle.regions.proofs.Between.{within}
use Rattle.regions.proofs.cover.box_covered.Given as goal

abbrev pub invariant-loop-k : goal.invariant-loop-k
invariant-loop-k l = every l.k (λ i. within l.b.x0 l.b.x1 (column_covered l.s l.n l.b.y0 l.b.y1) (proposed_at l.s i).x1) ≡ true
