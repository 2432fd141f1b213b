use mathlib.Core.Path.{◌≡◌}
use mathlib.Core.Bool.{true}
use Rattle.regions.specs.Pixels.{every, apart}
use Rattle.regions.specs.Proposals.{proposed_at}
use Rattle.regions.proofs.cover.apart_before.Given as goal

abbrev pub invariant-loop-j : goal.invariant-loop-j
invariant-loop-j l = every l.j (λ k. apart l.a (proposed_at l.s k)) ≡ true
