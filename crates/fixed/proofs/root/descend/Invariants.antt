-- `root::descend` meets its contract: the root is below high.
use Prim.Native.Nat.{◌*◌, ◌≤◌, ◌<◌}
use Rattle.fixed.proofs.root.descend.Given as goal

-- `root::descend` meets its contract: the root is below high.
abbrev pub invariant-loop-low : goal.invariant-loop-low
invariant-loop-low l = (l.n < l.high * l.high) × (l.low < l.high) × (l.high ≤ 1073741824)

abbrev pub decreases-loop-low : goal.decreases-loop-low
decreases-loop-low l = l.low
