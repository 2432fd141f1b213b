-- `outline::hull::add_segment` meets its contract.
use mathlib.Core.Path.{refl, sym, ap, ap₂, subst, ◌∙◌}
use mathlib.Core.List.{List}
use Rattle.path.specs.declared.Edge.{Edge}
use Rattle.path.specs.Curves.{edge, transform_curve}
use Rattle.outline.specs.Corners.{grown_by}
use Rattle.outline.specs.Around.{Around}
use Rattle.outline.proofs.Around.{line_around, curve_around}
use Rattle.outline.proofs.Counts.{curve_line}
use Rattle.outline.proofs.Walked.{drawn_curve}
use Rattle.outline.proofs.hull.add_segment.Goals as goal

pub returns-then-curve-eq1 : goal.returns-then-curve-eq1
returns-then-curve-eq1 c =
    let a = c.args in
    let o = c.apply-from.result in
    let v = transform_curve a.m a.curve in
    let r = c.grown.result in
    let e = c.between.ensures ∙ ap (edge o) c.apply-to.ensures in
    let h = line_around a.c r o v.p3 (c.grown.ensures ∙ ap (grown_by a.c) e) in
    let drawn = drawn_curve a.m a.pen a.byte a.curve o v (sym c.returns.ensures ∙ c.if-returns.false) c.apply-from.ensures refl in
    (h.0, subst (λ (es : List Edge). Around r es) (sym (curve_line o v c.if-curve-eq1.true) ∙ drawn) h.1)

pub returns : goal.returns
returns c =
    let a = c.args in
    let o = c.apply-from.result in
    let v = transform_curve a.m a.curve in
    let d = c.grown-d.result in
    let r = c.grown-2.result in
    let e = c.between-2.ensures ∙ ap (edge o) c.apply-p1.ensures in
    let f = c.between-3.ensures ∙ ap₂ edge c.apply-p2.ensures c.apply-to.ensures in
    let placed = c.requires.1.1 in
    let h = curve_around a.c d r o v placed.some placed.most
    (c.grown-d.ensures ∙ ap (grown_by a.c) e) (c.grown-2.ensures ∙ ap (grown_by d) f) in
    let drawn = drawn_curve a.m a.pen a.byte a.curve o v (sym c.returns.ensures ∙ c.if-returns.false) c.apply-from.ensures refl in
    (h.0, subst (λ (es : List Edge). Around r es) drawn h.1)
