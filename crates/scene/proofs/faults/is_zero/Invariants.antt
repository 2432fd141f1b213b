use Rattle.std.proofs.Common.{◌≡◌, ◌-◌, ◌≤◌}
use Rattle.std.specs.Prelude.{is_ok}
use Rattle.scene.specs.Faults.{unused}
use Rattle.scene.proofs.faults.is_zero.Given as goal

abbrev pub invariant-loop-at : goal.invariant-loop-at
invariant-loop-at l = (l.at - l.from ≤ l.to - l.from) × (l.zero ≡ is_ok (unused l.d l.from l.at))
