-- `outline::store::store_curve` meets its contract.
use mathlib.Core.Path.{◌≡◌}
use Prim.Native.Nat.{◌+◌}
use lib.ListN.{length}
use Rattle.path.specs.Curves.{cut_point}
use Rattle.path.specs.Stored.{put_edges}
use Rattle.outline.proofs.Counts.{pieces}
use Rattle.outline.proofs.store.store_curve.Given as goal

abbrev pub invariant-loop-k : goal.invariant-loop-k
invariant-loop-k l =
    (length l.edges ≡ length l.initial.edges) × (l.from ≡ cut_point l.o l.c l.k)
    × ((l.edges ≡ put_edges l.initial.edges l.n (pieces l.o l.c l.k)) × (l.count ≡ l.n + length (pieces l.o l.c l.k)))
