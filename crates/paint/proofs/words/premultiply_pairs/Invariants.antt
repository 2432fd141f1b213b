-- `words::premultiply_pairs` meets its contract: the pairs before i are written.
use Rattle.std.proofs.Common.{◌≡◌, ℕ, List, length, get_or}
use Rattle.lists.specs.Lists.{tab, over}
use Rattle.color.specs.declared.Pixel.{Pixel}
use Rattle.color.specs.Channels.{premultiplied}
use Rattle.paint.specs.Segments.{left_pair, right_pair, of_pairs}
use Rattle.paint.proofs.words.premultiply_pairs.Given as goal

-- the kth pixel
abbrev pub pixel : List ℕ → List ℕ → ℕ → Pixel
pixel left right k = premultiplied (of_pairs (get_or left k 0) (get_or right k 0))

abbrev pub invariant-loop-i : goal.invariant-loop-i
invariant-loop-i l =
    (length l.left ≡ length l.initial.left) × (length l.right ≡ length l.initial.left)
    × (l.left ≡ over (tab l.i (λ k. left_pair (pixel l.initial.left l.initial.right k))) l.initial.left)
    × (l.right ≡ over (tab l.i (λ k. right_pair (pixel l.initial.left l.initial.right k))) l.initial.right)
