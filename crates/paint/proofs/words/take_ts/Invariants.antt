-- `words::take_ts` meets its contract: the first i t's are written.
use Rattle.std.proofs.Common.{◌≡◌, ◌-◌, min, length, get_or}
use Rattle.lists.specs.Lists.{tab, over}
use Rattle.paint.proofs.words.take_ts.Given as goal

abbrev pub invariant-loop-i : goal.invariant-loop-i
invariant-loop-i l =
    (length l.left ≡ length l.ks) × (length l.right ≡ length l.ks)
    × (l.left ≡ over (tab l.i (λ k. min (get_or l.ks k 0 - 1) 65535)) l.initial.left)
    × (l.right ≡ over (tab l.i (λ k. min (get_or l.ks k 0 - 1) 65535)) l.initial.right)
