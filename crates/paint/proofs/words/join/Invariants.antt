-- `words::join` meets its contract: the words before i are written.
use Rattle.std.proofs.Common.{◌≡◌, ◌+◌, ◌*◌, length, get_or}
use Rattle.lists.specs.Lists.{tab, over}
use Rattle.paint.proofs.words.join.Given as goal

abbrev pub invariant-loop-i : goal.invariant-loop-i
invariant-loop-i l =
    (length l.ws ≡ length l.initial.ws)
    × (l.ws ≡ over (tab l.i (λ k. get_or l.left k 0 + get_or l.right k 0 * 65536)) l.initial.ws)
