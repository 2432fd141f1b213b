use mathlib.Core.Path.{◌≡◌}
use Rattle.difference.specs.Compare.{gap_at, greatest}
use Rattle.difference.proofs.rows.largest.Given as goal

abbrev pub invariant-loop-j : goal.invariant-loop-j
invariant-loop-j l = l.gap ≡ greatest l.j (gap_at l.a l.b)
