use mathlib.Core.Path.{◌≡◌}
use Prim.Native.Nat.{◌≤◌, ◌*◌}
use Rattle.playback.specs.Replay.{start_of}
use Rattle.playback.proofs.judge.sum.Given as goal

abbrev pub invariant-loop-i : goal.invariant-loop-i
invariant-loop-i l = (l.s ≡ start_of l.lengths l.i) × (l.s ≤ l.i * 4294967296)
