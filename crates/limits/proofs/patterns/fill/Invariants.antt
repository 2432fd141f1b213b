use mathlib.Core.Path.{◌≡◌}
use Prim.Native.Nat.{ℕ}
use Rattle.lists.specs.Lists.{tab, over}
use Rattle.limits.specs.Patterns.{Rule}
use Rattle.limits.proofs.patterns.fill.Given as goal

abbrev pub invariant-loop-i : goal.invariant-loop-i
invariant-loop-i g l = (f : ℕ → _) → Rule (λ k r. g.F.Fn.post l.at (k, tt) r) f → l.s ≡ over (tab l.i f) l.initial.s
