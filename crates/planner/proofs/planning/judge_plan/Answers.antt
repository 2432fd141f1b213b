use mathlib.Core.Path.{ap, ◌∙◌}
use Prim.Native.Nat.{ℕ}
use Rattle.render.specs.Answers.{mask_of, redraw_refusal}
use Rattle.planner.proofs.Answering.{plan_first, plan_short, plan_passes}
use Rattle.planner.proofs.planning.judge_plan.Goals as goal

pub returns-then-f-ne-ACCEPTED : goal.returns-then-f-ne-ACCEPTED
returns-then-f-ne-ACCEPTED c =
    let a = c.args in
    let m = mask_of a.masked a.mask.now in
    plan_first a.old.now a.new.now m a.places c.judge_redraw-f.result
    (c.judge_redraw-f.ensures ∙ ap (λ (n : ℕ). redraw_refusal a.old.now a.new.now m n 12300) c.surface_for.ensures)
    c.if-f-ne-ACCEPTED.true

pub returns-then-places-lt-PROPOSAL_NUMBERS : goal.returns-then-places-lt-PROPOSAL_NUMBERS
returns-then-places-lt-PROPOSAL_NUMBERS c =
    let a = c.args in
    let m = mask_of a.masked a.mask.now in
    plan_short a.old.now a.new.now m a.places c.judge_redraw-f.result c.verdict.result
    (c.judge_redraw-f.ensures ∙ ap (λ (n : ℕ). redraw_refusal a.old.now a.new.now m n 12300) c.surface_for.ensures)
    c.if-f-ne-ACCEPTED.false c.if-places-lt-PROPOSAL_NUMBERS.true c.verdict.ensures

pub returns : goal.returns
returns c =
    let a = c.args in
    let m = mask_of a.masked a.mask.now in
    plan_passes a.old.now a.new.now m a.places c.judge_redraw-f.result c.verdict-2.result
    (c.judge_redraw-f.ensures ∙ ap (λ (n : ℕ). redraw_refusal a.old.now a.new.now m n 12300) c.surface_for.ensures)
    c.if-f-ne-ACCEPTED.false c.if-places-lt-PROPOSAL_NUMBERS.false c.verdict-2.ensures
