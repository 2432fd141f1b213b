-- `outline::frame::all_paired` meets its contract.
use mathlib.Core.Path.{◌≡◌}
use Rattle.outline.specs.Frames.{paired_to}
use Rattle.outline.proofs.frame.all_paired.Given as goal

abbrev pub invariant-loop-i : goal.invariant-loop-i
invariant-loop-i l =
    l.paired ≡ paired_to l.segments l.i
