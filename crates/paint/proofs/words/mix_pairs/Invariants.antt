-- `words::mix_pairs` meets its contract: the pairs before i are written.
use Rattle.std.proofs.Common.{◌≡◌, length, get_or}
use Rattle.lists.specs.Lists.{tab, over}
use Rattle.paint.specs.Segments.{mix_pair}
use Rattle.paint.proofs.words.mix_pairs.Given as goal

abbrev pub invariant-loop-i : goal.invariant-loop-i
invariant-loop-i l = (length l.ts ≡ length l.initial.ts)
    × (l.ts ≡ over (tab l.i (λ k. mix_pair l.ci l.cj l.di l.dj (get_or l.initial.ts k 0))) l.initial.ts)
