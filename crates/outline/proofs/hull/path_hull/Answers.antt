-- `outline::hull::path_hull` meets its contract.
use mathlib.Core.Path.{sym, subst}
use Rattle.rect.specs.declared.Rect.{Rect}
use Rattle.rect.specs.Rects.{Holds}
use Rattle.path.specs.Boxes.{box_of}
use Rattle.path.specs.Curves.{path_edges}
use Rattle.outline.proofs.Around.{around_holds}
use Rattle.outline.proofs.hull.path_hull.Goals as goal

pub returns : goal.returns
returns c =
    let a = c.args in
    let es = path_edges a.m a.segments.now a.coordinates.now a.n in
    subst (λ (r : Rect). Holds r (box_of a.width a.height es)) (sym c.pixels.ensures)
    (around_holds a.width a.height c.control_box.result es c.control_box.ensures)
