-- `positions::cut_ts` meets its contract: the first i t's are stored, and t is the line's number at the pixel i.
use Rattle.std.proofs.Common.{◌≡◌, ℕ, ◌-◌, min, length, ℤ, pos, ◌+ℤ◌, ◌*ℤ◌}
use Rattle.lists.specs.Lists.{tab, over}
use Rattle.fixed.specs.Floor.{floor_div}
use Rattle.paint.specs.Buffers.{line_parts}
use Rattle.paint.specs.Segments.{position_of}
use Rattle.paint.proofs.positions.cut_ts.Given as goal

-- t at the ith pixel
abbrev pub place : ℤ → ℤ → ℕ → ℕ
place first step i = min (position_of (floor_div (first +ℤ step *ℤ pos i) line_parts) - 1) 65535

abbrev pub invariant-loop-i : goal.invariant-loop-i
invariant-loop-i l =
    (length l.left ≡ length l.initial.left) × (length l.right ≡ length l.initial.right) × (l.t ≡ l.first +ℤ l.step *ℤ pos l.i)
    × (l.left ≡ over (tab l.i (place (l.first) (l.step))) l.initial.left)
    × (l.right ≡ over (tab l.i (place (l.first) (l.step))) l.initial.right)
