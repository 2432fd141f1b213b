-- `outline::hull::surround` meets its contract: the box is around the edges of the segments passed.
use mathlib.Core.Path.{◌≡◌}
use Rattle.path.specs.Segments.{walk_to}
use Rattle.path.specs.Curves.{edges_to}
use Rattle.outline.specs.Around.{Around}
use Rattle.outline.proofs.hull.surround.Given as goal

abbrev pub invariant-loop-i : goal.invariant-loop-i
invariant-loop-i l =
    (l.walk ≡ walk_to l.segments l.coordinates l.i) × Around l.c (edges_to l.m l.segments l.coordinates l.i)
