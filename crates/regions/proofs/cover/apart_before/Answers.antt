use mathlib.Core.Path.{◌≡◌, sym, ap, ap₂, ◌∙◌}
use mathlib.Core.Bool.{true}
use native.Mathlib.Omega.{arith}
use Rattle.rect.specs.declared.Rect.{Rect}
use Rattle.regions.specs.Pixels.{every, apart}
use Rattle.regions.specs.Proposals.{proposed_at}
use Rattle.regions.proofs.Every.{every_turn, every_no, of_not, of_not_no}
use Rattle.regions.proofs.cover.apart_before.Goals as goal

pub returns-then-not-are_apart : goal.returns-then-not-are_apart
returns-then-not-are_apart c =
    let l = c.loop-j in
    let a = c.args in
    let r = c.rect_at-a in
    sym (every_no (λ j. apart (proposed_at a.s.now a.i) (proposed_at a.s.now j)) a.i l.j (omega arith)
    (ap₂ apart (sym r.ensures) (sym c.rect_at.ensures) ∙ sym c.are_apart.ensures ∙ of_not _ c.if-not-are_apart.true-raw))

pub loop-j-preserved : goal.loop-j-preserved
loop-j-preserved c =
    let l = c.loop-j in
    let a = c.args in
    let r = c.rect_at-a in
    every_turn (λ k. apart r.result (proposed_at a.s.now k)) l.j l.invariant
    (ap (apart r.result) (sym c.rect_at.ensures) ∙ sym c.are_apart.ensures ∙ of_not_no _ c.if-not-are_apart.false-raw)

pub returns : goal.returns
returns c =
    let l = c.loop-j in
    let a = c.args in
    let r = c.rect_at-a in
    let e : l.j ≡ a.i = omega arith in
    let h : every a.i (λ k. apart r.result (proposed_at a.s.now k)) ≡ true = rw e at l.invariant in
    sym (ap (λ (q : Rect). every a.i (λ k. apart q (proposed_at a.s.now k))) (sym r.ensures) ∙ h)
