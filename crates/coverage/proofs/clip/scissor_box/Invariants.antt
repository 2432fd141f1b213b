-- `coverage::clip::scissor_box` meets its contract. Assumes nothing.
use mathlib.Core.Path.{◌≡◌}
use Rattle.coverage.specs.Clips.{scissor_box}
use Rattle.coverage.proofs.clip.scissor_box.Given as goal

-- `coverage::clip::scissor_box` meets its contract. Assumes nothing.
abbrev pub invariant-loop-i : goal.invariant-loop-i
invariant-loop-i l = (l.b ≡ scissor_box l.scissors l.i)
