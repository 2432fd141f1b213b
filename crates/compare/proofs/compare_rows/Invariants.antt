use Prim.Native.Nat.{◌-◌}
use Rattle.difference.specs.Rows.{Noted}
use Rattle.compare.proofs.compare_rows.Given as goal

abbrev pub invariant-loop-i : goal.invariant-loop-i
invariant-loop-i l = Noted l.width (l.height - l.i) l.found
