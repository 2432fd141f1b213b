use Rattle.rect.specs.declared.Rect.{Rect}
use mathlib.Core.Path.{◌≡◌, sym, ap, ◌∙◌}
use mathlib.Core.Bool.{true}
use native.Mathlib.Omega.{arith}
use Rattle.regions.specs.Pixels.{every}
use Rattle.regions.specs.Proposals.{proposed_at}
use Rattle.regions.specs.Runs.{in_one, column_covered}
use Rattle.regions.proofs.Every.{every_turn, of_not, of_not_no}
use Rattle.regions.proofs.Between.{within, row_goes, ends_enough, end_fails}
use Rattle.regions.proofs.cover.column.Goals as goal

pub returns-then-not-row_passes : goal.returns-then-not-row_passes
unfolding column_covered
returns-then-not-row_passes c =
    let a = c.args in
    sym (end_fails (in_one a.n (proposed_at a.s.now) a.x) a.y0 a.y1 a.y0 (sym c.row_passes.ensures ∙ of_not _ c.if-not-row_passes.true-raw))

pub returns-then-not-row_passes-2 : goal.returns-then-not-row_passes-2
unfolding column_covered
returns-then-not-row_passes-2 c =
    let a = c.args in
    let p = in_one a.n (proposed_at a.s.now) a.x in
    sym (end_fails p a.y0 a.y1 c.rect_at-e.result.y1 (sym c.row_passes-in-loop-k.ensures ∙ of_not _ c.if-not-row_passes-2.true-raw))

pub loop-k-preserved : goal.loop-k-preserved
loop-k-preserved c =
    let l = c.loop-k in
    let a = c.args in
    let p = in_one a.n (proposed_at a.s.now) a.x in
    every_turn (λ i. within a.y0 a.y1 p (proposed_at a.s.now i).y1) l.k l.invariant
    (ap (λ (r : Rect). within a.y0 a.y1 p r.y1) (sym c.rect_at-e.ensures)
    ∙ sym c.row_passes-in-loop-k.ensures ∙ of_not_no _ c.if-not-row_passes-2.false-raw)

pub returns : goal.returns
unfolding column_covered
returns c =
    let l = c.loop-k in
    let a = c.args in
    let p = in_one a.n (proposed_at a.s.now) a.x in
    let e : l.k ≡ a.n = omega arith in
    let h : every a.n (λ i. within a.y0 a.y1 p (proposed_at a.s.now i).y1) ≡ true = rw e at l.invariant in
    sym (ends_enough a.n (λ k. (proposed_at a.s.now k).y1) p (row_goes a.n (proposed_at a.s.now) a.x) a.y0 a.y1
    (sym c.row_passes.ensures ∙ of_not_no _ c.if-not-row_passes.false-raw) h)
