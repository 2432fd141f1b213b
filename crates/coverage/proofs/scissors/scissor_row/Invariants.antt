-- `coverage::scissors::scissor_row` meets its contract. Assumes nothing.
use mathlib.Core.Path.{◌≡◌}
use Prim.Native.Nat.{◌-◌, ◌≤◌}
use lib.ListN.{length}
use Rattle.lists.specs.Lists.{tab, over}
use Rattle.coverage.proofs.Borders.{pixel}
use Rattle.coverage.proofs.scissors.scissor_row.Given as goal

-- `coverage::scissors::scissor_row` meets its contract. Assumes nothing.
abbrev pub invariant-loop-i : goal.invariant-loop-i
invariant-loop-i l =
    (l.i ≤ length l.initial.cover) × (length l.cover ≡ length l.initial.cover)
    × (l.cover ≡ over (tab l.i (pixel l.scissors l.n l.x l.y l.initial.cover)) l.initial.cover)

abbrev pub decreases-loop-i : goal.decreases-loop-i
decreases-loop-i l = length l.initial.cover - l.i
