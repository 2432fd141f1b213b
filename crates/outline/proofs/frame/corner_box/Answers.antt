-- `outline::frame::corner_box` meets its contract.
use mathlib.Core.Path.{ap, ◌∙◌}
use Rattle.path.specs.declared.Edge.{Edge}
use Rattle.path.specs.Matrices.{transform}
use Rattle.path.specs.Curves.{edge}
use Rattle.outline.specs.Corners.{grown_by}
use Rattle.outline.specs.Frames.{from_end, to_end}
use Rattle.outline.proofs.Frames.{diagonals_take}
use Rattle.outline.proofs.frame.corner_box.Goals as goal

pub returns : goal.returns
returns c =
    let a = c.args in
    let d = c.grown-d.result in
    let e = c.grown-d.ensures ∙ ap (grown_by _) c.moved.ensures in
    let turned = ap (λ (v : Edge). edge (transform a.m (from_end v)) (transform a.m (to_end v))) c.other_diagonal.ensures in
    let f = c.grown.ensures ∙ ap (grown_by d) (c.moved-2.ensures ∙ turned) in
    diagonals_take a.m a.b _ d c.grown.result e f
