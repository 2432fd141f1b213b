-- `outline::flatten::flatten` meets its contract: the edges so far are those of the segments passed.
use mathlib.Core.Path.{◌≡◌}
use Prim.Native.Nat.{◌+◌}
use lib.ListN.{length}
use Rattle.path.specs.Segments.{walk_to}
use Rattle.path.specs.Curves.{edges_to}
use Rattle.path.specs.Stored.{put_edges}
use Rattle.outline.proofs.flatten.flatten.Given as goal

abbrev pub invariant-loop-i : goal.invariant-loop-i
invariant-loop-i l =
    (length l.edges ≡ length l.initial.edges) × (l.walk ≡ walk_to l.segments l.coordinates l.i)
    × ((l.edges ≡ put_edges l.initial.edges 0 (edges_to l.m l.segments l.coordinates l.i)) × (l.count ≡ 0 + length (edges_to l.m l.segments l.coordinates l.i)))
