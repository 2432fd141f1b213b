-- `runs::alike` meets its contract.
use mathlib.Core.Path.{◌≡◌}
use Prim.Native.Nat.{ℕ, ◌≤◌, ◌<◌}
use lib.ListN.{get_or}
use Rattle.runs.proofs.alike.Given as goal

-- `runs::alike` meets its contract.
abbrev pub invariant-loop-e : goal.invariant-loop-e
invariant-loop-e l = (j : ℕ) → l.i ≤ j → j < l.e → get_or l.row j 0 ≡ l.k
