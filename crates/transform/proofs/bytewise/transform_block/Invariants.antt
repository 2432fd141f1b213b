-- `transform::bytewise::transform_block` meets its contract: the bytes before i are transformed, and the others are as they were.
use mathlib.Core.Path.{◌≡◌}
use Prim.Native.Nat.{◌*◌}
use lib.ListN.{length}
use Rattle.lists.specs.Lists.{tab, over}
use Rattle.transform.proofs.Laid.{byte_at}
use Rattle.transform.proofs.bytewise.transform_block.Given as goal

abbrev pub invariant-loop-i : goal.invariant-loop-i
invariant-loop-i l = (length l.row ≡ l.n * 4) × (l.row ≡ over (tab l.i (byte_at l.scales l.addends l.initial.row)) l.initial.row)
