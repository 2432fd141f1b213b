-- `path::plain::all_plain` meets its contract.
use Rattle.std.proofs.Common.{◌≡◌}
use Rattle.path.specs.Plain.{plain_to}
use Rattle.path.proofs.plain.all_plain.Given as goal

abbrev pub invariant-loop-i : goal.invariant-loop-i
invariant-loop-i l = l.plain ≡ plain_to l.segments l.i
