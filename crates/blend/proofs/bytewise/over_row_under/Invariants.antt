-- `blend::over_row_under` meets its contract: the bytes before i are blended and stored, and the others are as they were. Assumes nothing.
use mathlib.Core.Path.{◌≡◌}
use Prim.Native.Nat.{◌*◌}
use lib.ListN.{length}
use Rattle.lists.specs.Lists.{tab, over}
use Rattle.blend.proofs.Bytes.{over_stored_at}
use Rattle.blend.proofs.bytewise.over_row_under.Given as goal

-- `blend::over_row_under` meets its contract: the bytes before i are blended and stored, and the others are as they were. Assumes nothing.
abbrev pub invariant-loop-i : goal.invariant-loop-i
invariant-loop-i l = (length l.row ≡ l.n * 4) × (l.row ≡ over (tab l.i (over_stored_at l.coverage l.src l.keep l.initial.row)) l.initial.row)
