use mathlib.Core.Path.{◌≡◌}
use Prim.Native.Nat.{◌-◌}
use Rattle.difference.specs.Rows.{with_pixels}
use Rattle.difference.proofs.rows.with_pixels.Given as goal

abbrev pub invariant-loop-x : goal.invariant-loop-x
invariant-loop-x l = l.found ≡ with_pixels l.width l.y l.a l.b l.x (l.width - l.x) l.initial.found
