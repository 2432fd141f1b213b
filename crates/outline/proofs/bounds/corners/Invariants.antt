-- `outline::bounds::corners` meets its contract: the corners of the edges passed.
use mathlib.Core.Path.{◌≡◌}
use Rattle.path.specs.Stored.{edges_of}
use Rattle.outline.specs.Corners.{corners}
use Rattle.outline.proofs.bounds.corners.Given as goal

abbrev pub invariant-loop-i : goal.invariant-loop-i
invariant-loop-i l =
    l.c ≡ corners (edges_of l.edges l.i)
