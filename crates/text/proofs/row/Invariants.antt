use mathlib.Core.Path.{◌≡◌}
use Rattle.lists.specs.Lists.{upto, over}
use Rattle.text.specs.Text.{cell_text}
use Rattle.text.proofs.row.Given as goal

abbrev pub invariant-loop-x : goal.invariant-loop-x
invariant-loop-x l = l.out ≡ over (upto l.x (cell_text l.n l.pixels)) l.initial.out
