-- `radial_row::mapped_positions` meets its contract: each turn stores the position of its place.
use Rattle.std.proofs.Common.{ℕ, ℤ, nat_abs}
use Rattle.paint.specs.Gradient.{mapped}
use Rattle.paint.specs.Radial.{radial_d}
use Rattle.paint.specs.Segments.{position_of}
use Rattle.paint.specs.declared.RadialGradient.{RadialGradient}
use Rattle.paint.proofs.Onward.{Walked}
use Rattle.paint.proofs.radial_row.mapped_positions.Given as goal

-- the position of a t
abbrev pub position : RadialGradient → ℤ → ℕ
position g t = position_of (mapped g.spread t)

abbrev pub size : RadialGradient → ℕ
size g = nat_abs (radial_d g.circle)

abbrev pub invariant-loop-i : goal.invariant-loop-i
invariant-loop-i l = Walked (position l.g) (size l.g) l.initial.p l.initial.ks l.i l.p l.ks
