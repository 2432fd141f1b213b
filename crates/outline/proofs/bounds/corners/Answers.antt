-- `outline::bounds::corners` meets its contract: the corners of the edges passed.
use mathlib.Core.Path.{ap, ap₂, ◌∙◌}
use native.Mathlib.Omega.{arith}
use Rattle.outline.specs.Corners.{ordered_of, grown_by}
use Rattle.outline.proofs.Outermost.{corners_first, corners_next}
use Rattle.outline.proofs.bounds.corners.Goals as goal

pub loop-i-init : goal.loop-i-init
loop-i-init c = c.ordered-c.ensures ∙ ap ordered_of c.load.ensures ∙ corners_first c.args.edges.now

pub loop-i-preserved : goal.loop-i-preserved
loop-i-preserved c =
    let l = c.loop-i in
    c.grown-c.ensures ∙ ap₂ grown_by l.invariant c.load-in-loop-i.ensures ∙ corners_next c.args.edges.now l.i (omega arith)
