-- `outline::extent::gather_path` meets its contract: what is kept has the box of the segments passed, whatever follows.
use mathlib.Core.Path.{◌≡◌}
use Prim.Native.Nat.{◌≤◌}
use lib.ListN.{length}
use Rattle.path.specs.Segments.{walk_to}
use Rattle.path.specs.Curves.{edges_to}
use Rattle.path.specs.Stored.{edges_of}
use Rattle.outline.specs.Alike.{Alike}
use Rattle.outline.proofs.extent.gather_path.Given as goal

abbrev pub invariant-loop-i : goal.invariant-loop-i
invariant-loop-i l =
    (length l.ends ≡ length l.initial.ends) × (l.walk ≡ walk_to l.segments l.coordinates l.i) × (l.count ≤ 1)
    × Alike (edges_of l.ends l.count) (edges_to l.m l.segments l.coordinates l.i)
