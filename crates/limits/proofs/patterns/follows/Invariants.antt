use mathlib.Core.Path.{◌≡◌}
use Prim.Native.Nat.{ℕ, ◌<◌}
use lib.IntN.{ℤ, pos}
use lib.ListN.{get_or}
use Rattle.limits.specs.Patterns.{Rule}
use Rattle.limits.proofs.patterns.follows.Given as goal

abbrev pub invariant-loop-i : goal.invariant-loop-i
invariant-loop-i g l = (f : ℕ → ℤ) → Rule (λ k r. g.F.Fn.post l.at (k, tt) r) f → (k : ℕ) → k < l.i → get_or l.s k (pos 0) ≡ f k
