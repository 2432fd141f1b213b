-- `plain::scissors::is_in_scissors` meets its contract. Assumes nothing.
use mathlib.Core.Path.{◌≡◌}
use mathlib.Core.Bool.{false}
use Prim.Native.Nat.{◌-◌, ◌≤◌}
use Rattle.coverage.specs.Scissors.{in_scissors}
use Rattle.plain.proofs.scissors.is_in_scissors.Given as goal

-- `plain::scissors::is_in_scissors` meets its contract. Assumes nothing.
abbrev pub invariant-loop-i : goal.invariant-loop-i
invariant-loop-i l = (l.i ≤ l.n) × (in_scissors l.scissors l.i l.x l.y ≡ false)
