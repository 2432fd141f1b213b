use mathlib.Core.Path.{◌≡◌}
use lib.ListN.{take}
use Rattle.console.specs.Lines.{with_bytes}
use Rattle.console.proofs.lines.put_all.Given as goal

abbrev pub invariant-loop-i : goal.invariant-loop-i
invariant-loop-i l = l.next ≡ with_bytes l.initial.next (take l.i l.s)
