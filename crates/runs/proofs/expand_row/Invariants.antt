use mathlib.Core.Path.{◌≡◌}
use lib.ListN.{length}
use Rattle.lists.specs.Lists.{over}
use Rattle.runs.specs.Runs.{expand, start_of}
use Rattle.runs.proofs.expand_row.Given as goal

abbrev pub invariant-loop-j : goal.invariant-loop-j
invariant-loop-j l = (l.a ≡ start_of l.runs l.j) × (length l.row ≡ length l.initial.row) × (l.row ≡ over (expand l.runs l.j) l.initial.row)
