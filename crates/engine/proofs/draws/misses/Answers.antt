-- `draws::misses` meets its contract: where nothing of the rectangle that holds a draw's box is in the target, nothing of the box is.
use mathlib.Core.Path.{sym, ap, ◌∙◌}
use mathlib.Core.Bool.{false≢true}
use Rattle.rect.specs.Rects.{empty_of}
use Rattle.path.specs.Boxes.{box_of}
use Rattle.engine.specs.Picture.{draw_edges}
use Rattle.engine.proofs.Steps.{hull_none}
use Rattle.engine.proofs.draws.misses.Goals as goal

pub returns-then-a-height : goal.returns-then-a-height
returns-then-a-height c =
    λ e. absurd (false≢true e)

pub returns : goal.returns
returns c =
    let a = c.args in
    let t = a.target in
    let hull = c.draw_hull-hull in
    λ e. hull_none t.area (box_of t.width t.height (draw_edges a.edition a.d.now)) hull.result hull.ensures
    (sym (ap empty_of c.meet.ensures) ∙ sym c.is_empty.ensures ∙ e)
