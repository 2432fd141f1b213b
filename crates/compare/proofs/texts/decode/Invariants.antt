use mathlib.Core.Path.{◌≡◌}
use Rattle.lists.specs.Lists.{tab, over}
use Rattle.compare.specs.Texts.{byte_read}
use Rattle.compare.proofs.texts.decode.Given as goal

abbrev pub invariant-loop-j : goal.invariant-loop-j
invariant-loop-j l = l.out ≡ over (tab l.j (byte_read l.text)) l.initial.out
