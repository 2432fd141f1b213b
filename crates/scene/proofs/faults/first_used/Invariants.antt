use Rattle.std.proofs.Common.{◌≡◌}
use Rattle.std.specs.Prelude.{Ok}
use Rattle.scene.specs.Faults.{unused}
use Rattle.scene.proofs.faults.first_used.Given as goal

abbrev pub invariant-loop-at : goal.invariant-loop-at
invariant-loop-at l = unused l.d l.from l.at ≡ Ok tt
