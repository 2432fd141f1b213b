-- `plain::scissors::is_in_scissor` meets its contract. Assumes nothing.
use mathlib.Core.Path.{◌≡◌, sym, ap₂, ◌∙◌}
use Prim.Native.Nat.{◌+◌, ◌*◌}
use lib.IntN.{ℤ}
use mir.Syntax.{w32}
use Rattle.fixed.specs.Little.{i32_at}
use Rattle.fixed.proofs.Signed.{back}
use Rattle.coverage.specs.Scissors.{spans_pixel}
use Rattle.plain.proofs.scissors.is_in_scissor.Goals as goal
use Rattle.plain.proofs.scissors.is_in_scissor.Tie as tie
use Rattle.plain.proofs.scissors.is_in_scissor.Lts as lts
use Rattle.plain.proofs.scissors.is_in_scissor.Reads as reads

-- what the test of the column tells
column-held : (c : lts.After-is_within tie.the-claims reads.Pre reads.Post)
    → let a = c.args in
    c.is_within.result ≡ spans_pixel (i32_at a.scissors.now (16 * a.i)) (i32_at a.scissors.now (16 * a.i + 8)) a.x
column-held c =
    let a = c.args in
    let p = c.i32_at in
    let q = c.i32_at-2 in
    c.is_within.ensures
    ∙ ap₂ (λ (s z : ℤ). spans_pixel s z a.x) (back w32 p.result p.type_inv ∙ p.ensures) (back w32 q.result q.type_inv ∙ q.ensures)

pub returns-then-not-is_within : goal.returns-then-not-is_within
returns-then-not-is_within c =
    rw (sym (column-held c.before.before) ∙ c.if-not-is_within.true)

pub returns : goal.returns
returns c =
    let a = c.args in
    let p = c.i32_at-3 in
    let q = c.i32_at-4 in
    c.is_within-2.ensures
    ∙ ap₂ (λ (s z : ℤ). spans_pixel s z a.y) (back w32 p.result p.type_inv ∙ p.ensures) (back w32 q.result q.type_inv ∙ q.ensures)
    ∙ rw (sym (column-held c.before.before.before.before.before) ∙ c.if-not-is_within.false)
