-- `positions::along_quotients` meets its contract: the positions before i are stored, and q is t at the pixel i.
use Rattle.std.proofs.Common.{◌≡◌, ℕ, ◌+◌, length}
use Rattle.lists.specs.Lists.{tab, over}
use Rattle.paint.specs.Gradient.{linear_t, mapped}
use Rattle.paint.specs.Buffers.{quotient_at}
use Rattle.paint.specs.Segments.{position_of}
use Rattle.paint.specs.declared.LinearGradient.{LinearGradient}
use Rattle.paint.proofs.positions.along_quotients.Given as goal

-- the position of the ith pixel
abbrev pub place : LinearGradient → ℕ → ℕ → ℕ → ℕ
place g x y i = position_of (mapped g.spread (linear_t g.points (x + i) y))

abbrev pub invariant-loop-i : goal.invariant-loop-i
invariant-loop-i l =
    (length l.ks ≡ length l.initial.ks) × (l.q ≡ quotient_at l.g.points (l.x + l.i) l.y)
    × (l.ks ≡ over (tab l.i (place l.g l.x l.y)) l.initial.ks)
