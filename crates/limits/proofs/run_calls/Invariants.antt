use Prim.Native.Nat.{◌-◌}
use Rattle.limits.proofs.run_calls.Given as goal

abbrev pub decreases-loop-i : goal.decreases-loop-i
decreases-loop-i l = l.count - l.i
