use Prim.Native.Nat.{ℕ}
use mathlib.Core.Path.{ap₂, ◌∙◌}
use Rattle.render.specs.Answers.{mask_of, lent_refusal, draw_refusal}
use Rattle.render.proofs.Refusals.{first_refused, first_passed, scene_passed, accepted_block}
use Rattle.render.proofs.judge.judge_draw.Goals as goal

pub returns-then-broken-ne-ACCEPTED : goal.returns-then-broken-ne-ACCEPTED
unfolding draw_refusal
returns-then-broken-ne-ACCEPTED c =
    first_refused c.judge_scene-broken.result _ _ c.judge_scene-broken.ensures c.if-broken-ne-ACCEPTED.true

pub width-requires : goal.width-requires
width-requires c =
    accepted_block c.args.masked _ (scene_passed c.args.masked c.args.s.now 0 c.judge_scene-broken.result
    c.judge_scene-broken.ensures c.if-broken-ne-ACCEPTED.false)

pub height-requires : goal.height-requires
height-requires c =
    accepted_block c.args.masked _
    (scene_passed c.args.masked c.args.s.now 0 c.judge_scene-broken.result c.judge_scene-broken.ensures
    c.if-broken-ne-ACCEPTED.false)

pub judge_lent-requires : goal.judge_lent-requires
judge_lent-requires c =
    (c.width.ensures.1, c.height.ensures.1)

pub returns : goal.returns
unfolding draw_refusal
returns c =
    let a = c.args in
    let w = c.width in
    let h = c.height in
    first_passed c.judge_scene-broken.result _ c.judge_lent.result _ c.judge_scene-broken.ensures
    c.if-broken-ne-ACCEPTED.false
    (c.judge_lent.ensures ∙ ap₂ (λ (x y : ℕ). lent_refusal x y (mask_of a.masked a.mask.now) a.surface a.scratch) w.ensures.0 h.ensures.0)
