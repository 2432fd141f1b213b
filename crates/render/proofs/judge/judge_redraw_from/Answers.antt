use mathlib.Core.Bool.{Bool}
use mathlib.Core.List.{List}
use Rattle.std.specs.Prelude.{Ok}
use Rattle.scene.specs.Rules.{scene_fault}
use Prim.Native.Nat.{ℕ}
use mathlib.Core.Path.{◌≡◌, refl, sym, ap₂, ◌∙◌}
use Rattle.render.specs.declared.Refusal.{Refusal}
use Rattle.render.specs.Answers.{mask_of, nothing, or_else, scene_refusal, lent_refusal, redraw_refusal}
use Rattle.render.proofs.Refusals.{first_refused, first_passed, scene_passes, scene_passed, accepted_block}
use Rattle.render.proofs.judge.judge_redraw_from.Goals as goal

-- the old scene's rules, which come first, are kept
from_old : (masked : Bool) (old : List ℕ) (r rest : Refusal) → scene_fault masked old ≡ Ok tt → r ≡ rest → r ≡ or_else (scene_refusal masked old 0) rest
from_old masked old r rest k = first_passed nothing _ r rest (sym (scene_passes masked old 0 k)) refl

pub returns-then-new_broken-ne-ACCEPTED : goal.returns-then-new_broken-ne-ACCEPTED
unfolding redraw_refusal
returns-then-new_broken-ne-ACCEPTED c =
    let g = c.judge_scene-new_broken in
    from_old c.args.masked c.args.old.now g.result _ c.requires (first_refused g.result _ _ g.ensures c.if-new_broken-ne-ACCEPTED.true)

pub judge_sizes-unequal-requires : goal.judge_sizes-unequal-requires
judge_sizes-unequal-requires c =
    let a = c.args in
    let g = c.judge_scene-new_broken in (
      accepted_block a.masked a.old.now c.requires,
      accepted_block a.masked a.new.now (scene_passed a.masked a.new.now 1 g.result g.ensures c.if-new_broken-ne-ACCEPTED.false),
    )

pub returns-then-unequal-ne-ACCEPTED : goal.returns-then-unequal-ne-ACCEPTED
unfolding redraw_refusal
returns-then-unequal-ne-ACCEPTED c =
    let g = c.judge_scene-new_broken in
    let e = c.judge_sizes-unequal in
    from_old c.args.masked c.args.old.now e.result _ c.requires
    (first_passed g.result _ e.result _ g.ensures c.if-new_broken-ne-ACCEPTED.false (first_refused e.result _ _ e.ensures c.if-unequal-ne-ACCEPTED.true))

pub width-requires : goal.width-requires
width-requires c =
    let a = c.args in
    let g = c.judge_scene-new_broken in
    accepted_block a.masked _ (scene_passed a.masked a.new.now 1 g.result g.ensures c.if-new_broken-ne-ACCEPTED.false)

pub height-requires : goal.height-requires
height-requires c =
    let a = c.args in
    let g = c.judge_scene-new_broken in
    accepted_block a.masked _ (scene_passed a.masked a.new.now 1 g.result g.ensures c.if-new_broken-ne-ACCEPTED.false)

pub judge_lent-requires : goal.judge_lent-requires
judge_lent-requires c =
    (c.width.ensures.1, c.height.ensures.1)

pub returns : goal.returns
unfolding redraw_refusal
returns c =
    let a = c.args in
    let g = c.judge_scene-new_broken in
    let e = c.judge_sizes-unequal in
    let r = c.judge_lent in
    from_old c.args.masked c.args.old.now r.result _ c.requires
    (first_passed g.result _ r.result _ g.ensures c.if-new_broken-ne-ACCEPTED.false
    (first_passed e.result _ r.result _ e.ensures c.if-unequal-ne-ACCEPTED.false
    (r.ensures ∙ ap₂ (λ (x y : ℕ). lent_refusal x y (mask_of a.masked a.mask.now) a.surface a.scratch) c.width.ensures.0
    c.height.ensures.0)))
