use mathlib.Core.Path.{◌≡◌}
use Prim.Native.Nat.{◌≤◌}
use lib.ListN.{length}
use Rattle.lists.specs.Lists.{over}
use Rattle.rescue.specs.Salvaged.{listed_to, replaced_to, fitting}
use Rattle.rescue.proofs.write.write_list.Given as goal

abbrev pub invariant-loop-i : goal.invariant-loop-i
invariant-loop-i l =
    (l.k ≤ l.i) × (length l.list ≡ length l.initial.list) × (l.k ≡ replaced_to l.s l.i) ×
    (l.list ≡ over (fitting (length l.initial.list) (listed_to l.s l.i)) l.initial.list)
