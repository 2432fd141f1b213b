-- `plain::scissors::is_in_scissors` meets its contract. Assumes nothing.
use mathlib.Core.Path.{◌≡◌, refl, sym, ◌∙◌}
use native.Mathlib.Numerals.{add-one}
use native.Mathlib.Omega.{arith}
use Rattle.plain.proofs.Cut.{in_one_lem}
use borrow.Author.Rules.{rules}
use Rattle.plain.proofs.scissors.is_in_scissors.Goals as goal

pub loop-i-init : goal.loop-i-init
loop-i-init c =
    (search rules, refl)

pub returns-then-is_in_scissor : goal.returns-then-is_in_scissor
returns-then-is_in_scissor c =
    let l = c.loop-i in
    let a = c.args in
    sym (in_one_lem a.scissors.now a.n a.x a.y l.i (omega arith) (sym c.is_in_scissor.ensures ∙ c.if-is_in_scissor.true))

pub loop-i-preserved : goal.loop-i-preserved
loop-i-preserved c =
    let l = c.loop-i in
    (search rules, rw (add-one, l.invariant.1) (sym c.is_in_scissor.ensures ∙ c.if-is_in_scissor.false))

pub returns : goal.returns
returns c =
    let l = c.loop-i in
    let a = c.args in
    let e : l.i ≡ a.n = omega arith in
    sym (rw e at l.invariant.1)
