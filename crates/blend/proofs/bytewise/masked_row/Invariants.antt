-- `blend::masked_row` meets its contract: the bytes before i are stored, and the others are as they were. Assumes nothing.
use mathlib.Core.Path.{◌≡◌}
use Prim.Native.Nat.{◌*◌}
use lib.ListN.{length}
use Rattle.lists.specs.Lists.{tab, over}
use Rattle.blend.proofs.Bytes.{masked_at}
use Rattle.blend.proofs.bytewise.masked_row.Given as goal

-- `blend::masked_row` meets its contract: the bytes before i are stored, and the others are as they were. Assumes nothing.
abbrev pub invariant-loop-i : goal.invariant-loop-i
invariant-loop-i l =
    (length l.row ≡ l.n * 4) × (l.row ≡ over (tab l.i (masked_at l.coverage l.wide l.src l.initial.row)) l.initial.row)
