-- `outline::frame::point_box` meets its contract: the box holds the points passed.
use Rattle.outline.specs.Frames.{Framed, NearEnds}
use Rattle.outline.proofs.frame.point_box.Given as goal

abbrev pub invariant-loop-i : goal.invariant-loop-i
invariant-loop-i l =
    NearEnds l.c × Framed l.c l.coordinates l.i
