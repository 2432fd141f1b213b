use mathlib.Core.Path.{sym, ◌∙◌}
use native.Mathlib.Omega.{arith}
use Rattle.regions.specs.Pixels.{covers}
use Rattle.regions.specs.Proposals.{proposed}
use Rattle.regions.proofs.Verdicts.{changes_decide, surface_decides}
use Rattle.regions.proofs.accept.changes_covered.Goals as goal

pub returns-then-same_background : goal.returns-then-same_background
returns-then-same_background c =
    let a = c.args in
    changes_decide (covers (proposed a.rectangles.now)) a.width a.height a.old.now a.new.now
    (sym c.same_background.ensures ∙ c.if-same_background.true) c.draws_covered.result c.draws_covered.ensures

pub box_covered-requires : goal.box_covered-requires
box_covered-requires c =
    omega arith

pub returns : goal.returns
returns c =
    let a = c.args in
    surface_decides (covers (proposed a.rectangles.now)) a.width a.height a.old.now a.new.now
    (sym c.same_background.ensures ∙ c.if-same_background.false) c.box_covered.result c.box_covered.ensures
