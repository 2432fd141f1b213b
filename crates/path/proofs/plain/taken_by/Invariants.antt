-- `path::plain::taken_by` meets its contract.
use Rattle.std.proofs.Common.{◌≡◌, ◌*◌, ◌≤◌}
use Rattle.path.specs.Plain.{taken_to}
use Rattle.path.proofs.plain.taken_by.Given as goal

abbrev pub invariant-loop-i : goal.invariant-loop-i
invariant-loop-i l = (l.used ≤ 6 * l.i) × (l.used ≡ taken_to l.segments l.i)
