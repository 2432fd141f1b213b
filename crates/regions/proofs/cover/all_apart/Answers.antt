use mathlib.Core.Path.{◌≡◌, sym, ◌∙◌}
use native.Mathlib.Omega.{arith}
use Rattle.regions.specs.Pixels.{every, apart}
use Rattle.regions.specs.Proposals.{proposed_at}
use Rattle.regions.proofs.Every.{every_turn, every_no, of_not, of_not_no}
use Rattle.regions.proofs.cover.all_apart.Goals as goal

pub returns-then-not-apart_before : goal.returns-then-not-apart_before
returns-then-not-apart_before c =
    let l = c.loop-i in
    let a = c.args in
    sym (every_no (λ k. every k (λ j. apart (proposed_at a.s.now k) (proposed_at a.s.now j))) a.n l.i (omega arith)
    (sym c.apart_before.ensures ∙ of_not _ c.if-not-apart_before.true-raw))

pub loop-i-preserved : goal.loop-i-preserved
loop-i-preserved c =
    let l = c.loop-i in
    let a = c.args in
    every_turn (λ k. every k (λ j. apart (proposed_at a.s.now k) (proposed_at a.s.now j))) l.i l.invariant
    (sym c.apart_before.ensures ∙ of_not_no _ c.if-not-apart_before.false-raw)

pub returns : goal.returns
returns c =
    let l = c.loop-i in
    let e : l.i ≡ c.args.n = omega arith in
    sym (rw e at l.invariant)
