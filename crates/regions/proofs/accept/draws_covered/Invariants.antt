use mathlib.Core.Path.{◌≡◌}
use mathlib.Core.Bool.{true}
use Rattle.damage.specs.Damage.{boxes_at}
use Rattle.regions.specs.Pixels.{every, each, covers}
use Rattle.regions.specs.Proposals.{proposed}
use Rattle.regions.proofs.accept.draws_covered.Given as goal

abbrev pub invariant-loop-i : goal.invariant-loop-i
invariant-loop-i l = every l.i (λ j. each (covers (proposed l.rectangles)) (boxes_at l.width l.height l.old l.new j)) ≡ true
