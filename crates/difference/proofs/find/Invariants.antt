use mathlib.Core.Path.{◌≡◌}
use Prim.Native.Nat.{◌-◌}
use Rattle.difference.specs.Rows.{Noted}
use Rattle.difference.proofs.Turns.{found_from}
use Rattle.difference.proofs.find.Given as goal

abbrev pub invariant-loop-y : goal.invariant-loop-y
invariant-loop-y l = (l.found ≡ found_from l.width l.a l.b l.y (l.height - l.y)) × Noted l.width l.y l.found
