use mathlib.Core.Path.{◌≡◌}
use mathlib.Core.Bool.{true}
use Rattle.regions.specs.Pixels.{every}
use Rattle.regions.specs.Proposals.{proposed_at}
use Rattle.regions.specs.Runs.{in_one}
use Rattle.regions.proofs.Between.{within}
use Rattle.regions.proofs.cover.column.Given as goal

abbrev pub invariant-loop-k : goal.invariant-loop-k
invariant-loop-k l = every l.k (λ i. within l.y0 l.y1 (in_one l.n (proposed_at l.s) l.x) (proposed_at l.s i).y1) ≡ true
