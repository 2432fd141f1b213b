use mathlib.Core.Path.{refl, sym, ◌∙◌}
use native.Mathlib.Omega.{arith}
use Rattle.planner.proofs.Collected.{cover_boxes, cover_surface}
use Rattle.planner.proofs.boxes.collect.Goals as goal

pub returns-then-same_background : goal.returns-then-same_background
returns-then-same_background c =
    let a = c.args in (
      c.collect_changes.ensures.0,
      cover_boxes a.width a.height a.old.now a.new.now _ (sym c.same_background.ensures ∙ c.if-same_background.true)
          c.collect_changes.ensures.1,
    )

pub returns : goal.returns
returns c =
    let a = c.args in (
      omega arith,
      cover_surface a.width a.height a.old.now a.new.now a.boxes.now _ _ (omega (arith, c.requires.width_bound.1))
          (sym c.same_background.ensures ∙ c.if-same_background.false) refl refl,
    )
