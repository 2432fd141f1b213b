-- `root::halve` meets its contract: the root lies from below to before above.
use Prim.Native.Nat.{◌-◌, ◌*◌, ◌≤◌, ◌<◌}
use Rattle.fixed.proofs.root.halve.Given as goal

-- `root::halve` meets its contract: the root lies from below to before above.
abbrev pub invariant-loop-below : goal.invariant-loop-below
invariant-loop-below l = (l.below * l.below ≤ l.n) × (l.n < l.above * l.above) × (l.below < l.above) × (l.above ≤ 1073741824)

abbrev pub decreases-loop-below : goal.decreases-loop-below
decreases-loop-below l = l.above - l.below
