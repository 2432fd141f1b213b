use Rattle.rect.specs.declared.Rect.{Rect}
use mathlib.Core.Path.{◌≡◌, sym, ap, ◌∙◌}
use native.Mathlib.Omega.{arith}
use Rattle.rect.specs.Rects.{inside}
use Rattle.regions.specs.Proposals.{proposed_at}
use Rattle.regions.specs.Runs.{in_one}
use Rattle.regions.proofs.Every.{some_yes, some_turn}
use Rattle.regions.proofs.cover.in_one.Goals as goal

pub returns-then-holds : goal.returns-then-holds
unfolding in_one
returns-then-holds c =
    let l = c.loop-k in
    let a = c.args in
    sym (some_yes (λ i. inside (proposed_at a.s.now i) a.x a.y) a.n l.k (omega arith)
    (ap (λ (r : Rect). inside r a.x a.y) (sym c.rect_at.ensures) ∙ sym c.holds.ensures ∙ c.if-holds.true))

pub loop-k-preserved : goal.loop-k-preserved
loop-k-preserved c =
    let l = c.loop-k in
    let a = c.args in
    some_turn (λ i. inside (proposed_at a.s.now i) a.x a.y) l.k l.invariant
    (ap (λ (r : Rect). inside r a.x a.y) (sym c.rect_at.ensures) ∙ sym c.holds.ensures ∙ c.if-holds.false)

pub returns : goal.returns
unfolding in_one
returns c =
    let l = c.loop-k in
    let a = c.args in
    let e : l.k ≡ a.n = omega arith in
    sym (rw e at l.invariant)
