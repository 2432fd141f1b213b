use mathlib.Core.Path.{◌∙◌, sym}
use Rattle.render.proofs.Refusals.{size_width, size_height, size_passes}
use Rattle.render.proofs.judge.judge_sizes.Goals as goal

pub returns-then-width : goal.returns-then-width
returns-then-width c =
    let a = c.args in
    c.refusal.ensures
    ∙ sym (size_width a.old.now a.new.now
    (λ e. c.if-width.true (c.width.ensures.0 ∙ e ∙ sym c.width-2.ensures.0)))

pub returns-then-height : goal.returns-then-height
returns-then-height c =
    let a = c.args in
    c.refusal-then-height.ensures
    ∙ sym (size_height a.old.now a.new.now (sym c.width.ensures.0 ∙ c.if-width.false ∙ c.width-2.ensures.0)
    (λ e. c.if-height.true (c.height.ensures.0 ∙ e ∙ sym c.height-2.ensures.0)))

pub returns : goal.returns
returns c =
    let a = c.args in
    c.refusal-2.ensures
    ∙ sym (size_passes a.old.now a.new.now (sym c.width.ensures.0 ∙ c.if-width.false ∙ c.width-2.ensures.0)
    (sym c.height.ensures.0 ∙ c.if-height.false ∙ c.height-2.ensures.0))
