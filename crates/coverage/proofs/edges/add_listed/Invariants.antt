-- `coverage::edges::add_listed` meets its contract. Assumes nothing.
use mathlib.Core.Path.{◌≡◌}
use Prim.Native.Nat.{◌*◌}
use lib.ListN.{length}
use Rattle.path.specs.Stored.{edges_of}
use Rattle.coverage.specs.Scanline.{sums_at, with_sums, Marked}
use Rattle.coverage.specs.Marks.{Grouped}
use Rattle.coverage.specs.Band.{reach}
use Rattle.coverage.proofs.edges.add_listed.Given as goal

-- `coverage::edges::add_listed` meets its contract. Assumes nothing.
abbrev pub invariant-loop-j : goal.invariant-loop-j
invariant-loop-j l =
    (length l.scratch ≡ length l.initial.scratch)
    × (length l.cover ≡ length l.initial.cover)
    × (l.scratch ≡ with_sums l.n (length l.initial.cover) l.c l.y (reach l.list l.n l.j) l.initial.scratch)
    × Marked l.cover (sums_at l.c (length l.initial.cover * 4) l.y (edges_of l.initial.scratch (reach l.list l.n l.j)))
    × Grouped l.cover l.groups
