-- `positions::along_line` meets its contract: the positions before i are stored, and t is the line's number at the pixel i.
use Rattle.std.proofs.Common.{◌≡◌, ℕ, length, ℤ, pos, ◌+ℤ◌, ◌*ℤ◌}
use Rattle.lists.specs.Lists.{tab, over}
use Rattle.fixed.specs.Floor.{floor_div}
use Rattle.paint.specs.Buffers.{line_parts}
use Rattle.paint.specs.Segments.{position_of}
use Rattle.paint.proofs.positions.along_line.Given as goal

-- the position of the ith pixel
abbrev pub place : ℤ → ℤ → ℕ → ℕ
place first step i = position_of (floor_div (first +ℤ step *ℤ pos i) line_parts)

abbrev pub invariant-loop-i : goal.invariant-loop-i
invariant-loop-i l =
    (length l.ks ≡ length l.initial.ks) × (l.t ≡ l.first +ℤ l.step *ℤ pos l.i)
    × (l.ks ≡ over (tab l.i (place (l.first) (l.step))) l.initial.ks)
