-- `outline::frame::point_box` meets its contract: the box holds the points passed.
use mathlib.Core.Path.{ap, ◌∙◌}
use Rattle.outline.specs.Corners.{grown_by}
use Rattle.outline.proofs.Frames.{framed_more, near_more}
use Rattle.outline.proofs.frame.point_box.Goals as goal

pub loop-i-preserved : goal.loop-i-preserved
loop-i-preserved c =
    let a = c.args in
    let l = c.loop-i in
    let p = c.point_at-p in
    let e = c.grown-c.ensures ∙ ap (grown_by l.c) c.between.ensures in (
      near_more l.c c.grown-c.result p.result e l.invariant.0 p.ensures.1,
      framed_more l.c c.grown-c.result p.result e a.coordinates.now l.i p.ensures.0 l.invariant.1,
    )
