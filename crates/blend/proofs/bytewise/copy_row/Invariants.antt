use mathlib.Core.Path.{◌≡◌}
use lib.ListN.{get_or}
use Rattle.lists.specs.Lists.{tab, over}
use Rattle.blend.proofs.bytewise.copy_row.Given as goal

abbrev pub invariant-loop-i : goal.invariant-loop-i
invariant-loop-i l = l.row ≡ over (tab l.i (λ j. get_or l.src j 0)) l.initial.row
