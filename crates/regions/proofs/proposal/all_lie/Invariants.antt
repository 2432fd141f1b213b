use mathlib.Core.Path.{◌≡◌}
use mathlib.Core.Bool.{true}
use Rattle.regions.specs.Pixels.{every}
use Rattle.regions.specs.Proposals.{lies_in}
use Rattle.regions.proofs.proposal.all_lie.Given as goal

abbrev pub invariant-loop-k : goal.invariant-loop-k
invariant-loop-k l = every l.k (lies_in l.w l.h l.s) ≡ true
