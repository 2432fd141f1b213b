use Rattle.regions.proofs.Every.{of_not, of_not_no}
use mathlib.Core.Path.{◌≡◌, sym, ap, ◌∙◌}
use mathlib.Core.Bool.{true}
use Prim.Native.Nat.{◌-◌}
use native.Mathlib.Omega.{arith}
use Rattle.rect.specs.declared.Rect.{Rect}
use Rattle.regions.specs.Pixels.{every, every_pixel}
use Rattle.regions.specs.Proposals.{proposed_at}
use Rattle.regions.specs.Runs.{column_covered}
use Rattle.regions.proofs.Every.{every_turn, covers_is}
use Rattle.regions.proofs.Between.{within, column_goes, ends_enough, end_fails}
use Rattle.regions.proofs.cover.box_covered.Goals as goal

pub returns-then-not-column_passes : goal.returns-then-not-column_passes
unfolding every_pixel column_covered
returns-then-not-column_passes c =
    let a = c.args in
    sym (end_fails (column_covered a.s.now a.n a.b.y0 a.b.y1) a.b.x0 a.b.x1 a.b.x0
    (sym c.column_passes.ensures ∙ of_not _ c.if-not-column_passes.true-raw))
    ∙ covers_is a.n (proposed_at a.s.now) a.b

pub returns-then-not-column_passes-2 : goal.returns-then-not-column_passes-2
unfolding every_pixel column_covered
returns-then-not-column_passes-2 c =
    let a = c.args in
    let p = column_covered a.s.now a.n a.b.y0 a.b.y1 in
    sym (end_fails p a.b.x0 a.b.x1 c.rect_at-e.result.x1 (sym c.column_passes-in-loop-k.ensures ∙ of_not _ c.if-not-column_passes-2.true-raw))
    ∙ covers_is a.n (proposed_at a.s.now) a.b

pub loop-k-preserved : goal.loop-k-preserved
loop-k-preserved c =
    let l = c.loop-k in
    let a = c.args in
    let p = column_covered a.s.now a.n a.b.y0 a.b.y1 in
    every_turn (λ i. within a.b.x0 a.b.x1 p (proposed_at a.s.now i).x1) l.k l.invariant
    (ap (λ (r : Rect). within a.b.x0 a.b.x1 p r.x1) (sym c.rect_at-e.ensures)
    ∙ sym c.column_passes-in-loop-k.ensures ∙ of_not_no _ c.if-not-column_passes-2.false-raw)

pub returns : goal.returns
unfolding every_pixel column_covered
returns c =
    let l = c.loop-k in
    let a = c.args in
    let p = column_covered a.s.now a.n a.b.y0 a.b.y1 in
    let e : l.k ≡ a.n = omega arith in
    let h : every a.n (λ i. within a.b.x0 a.b.x1 p (proposed_at a.s.now i).x1) ≡ true = rw e at l.invariant in
    sym (ends_enough a.n (λ k. (proposed_at a.s.now k).x1) p
    (column_goes a.n (proposed_at a.s.now) a.b.y0 (a.b.y1 - a.b.y0)) a.b.x0 a.b.x1
    (sym c.column_passes.ensures ∙ of_not_no _ c.if-not-column_passes.false-raw) h)
    ∙ covers_is a.n (proposed_at a.s.now) a.b
