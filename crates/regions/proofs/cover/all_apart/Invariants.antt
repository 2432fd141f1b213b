use mathlib.Core.Path.{◌≡◌}
use mathlib.Core.Bool.{true}
use Rattle.regions.specs.Pixels.{every, apart}
use Rattle.regions.specs.Proposals.{proposed_at}
use Rattle.regions.proofs.cover.all_apart.Given as goal

abbrev pub invariant-loop-i : goal.invariant-loop-i
invariant-loop-i l = every l.i (λ k. every k (λ j. apart (proposed_at l.s k) (proposed_at l.s j))) ≡ true
