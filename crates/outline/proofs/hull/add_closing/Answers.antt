-- `outline::hull::add_closing` meets its contract.
use mathlib.Core.Path.{refl, sym, ap, subst, ◌∙◌}
use mathlib.Core.List.{List}
use Rattle.path.specs.declared.Edge.{Edge}
use Rattle.path.specs.Matrices.{transform}
use Rattle.outline.specs.Corners.{grown_by}
use Rattle.outline.specs.Around.{Around}
use Rattle.outline.proofs.Around.{wider_refl, start_around, line_around}
use Rattle.outline.proofs.Walked.{closing_edge}
use Rattle.outline.proofs.hull.add_closing.Goals as goal

pub returns-then-same_point : goal.returns-then-same_point
returns-then-same_point c =
    let a = c.args in
    let pen = a.pen in (
      wider_refl a.c,
      subst (λ (es : List Edge). Around a.c es)
          (closing_edge a.m pen (transform a.m pen.current) (transform a.m pen.start) refl refl)
          (start_around a.c a.m pen.current pen.start (sym c.same_point.ensures ∙ c.if-same_point.true)),
    )

pub returns : goal.returns
returns c =
    let a = c.args in
    let p = c.apply-from.result in
    let q = c.apply-to.result in
    let r = c.grown.result in
    let h = line_around a.c r p q (c.grown.ensures ∙ ap (grown_by a.c) c.between.ensures) in
    (h.0, subst (λ (es : List Edge). Around r es) (closing_edge a.m a.pen p q c.apply-from.ensures c.apply-to.ensures) h.1)
