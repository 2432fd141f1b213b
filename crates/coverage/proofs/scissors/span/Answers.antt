-- `coverage::scissors::span` meets its contract. Assumes nothing.
use mathlib.Core.Path.{◌≡◌, sym, ap, ap₂, ◌∙◌}
use mathlib.Core.Bool.{true, false}
use Prim.Native.Nat.{◌+◌, ◌*◌}
use native.Mathlib.Omega.{arith}
use mir.Syntax.{w32}
use Rattle.fixed.specs.Little.{i32_at}
use Rattle.fixed.proofs.Signed.{back}
use Rattle.coverage.specs.declared.Span.{Span}
use Rattle.coverage.specs.Scanline.{in_span, run_of}
use Rattle.coverage.proofs.Rectangles.{span_past, span_of_lem}
use Rattle.coverage.proofs.scissors.span.Goals as goal
use Rattle.coverage.proofs.scissors.span.Tie as tie
use Rattle.coverage.proofs.scissors.span.Lts as lts
use Rattle.coverage.proofs.scissors.span.Reads as reads

-- what the test of the row tells
row-held : (c : lts.After-in_span tie.the-claims reads.Pre reads.Post)
    → c.in_span.result
    ≡ in_span (run_of (i32_at c.args.scissors.now (16 * c.args.r + 4)) (i32_at c.args.scissors.now (16 * c.args.r + 12)))
    c.args.y
row-held c =
    let a = c.args in
    let p = c.i32_at in
    let q = c.i32_at-2 in
    c.in_span.ensures
    ∙ ap (λ (s : Span). in_span s a.y)
    (c.run-rows.ensures ∙ ap₂ run_of (back w32 p.result p.type_inv ∙ p.ensures) (back w32 q.result q.type_inv ∙ q.ensures))

pub returns-then-n-r : goal.returns-then-n-r
returns-then-n-r c =
    let a = c.args in
    span_past a.scissors.now a.n a.r a.y (omega arith)

pub returns-then-in_span : goal.returns-then-in_span
returns-then-in_span c =
    let a = c.args in
    let p = c.i32_at-then-in_span in
    let q = c.i32_at-then-in_span-2 in
    c.run.ensures ∙ ap₂ run_of (back w32 p.result p.type_inv ∙ p.ensures) (back w32 q.result q.type_inv ∙ q.ensures)
    ∙ span_of_lem a.scissors.now a.n a.r a.y (omega arith) true (sym (row-held c.before.before.before.before.before) ∙ c.if-in_span.true)

pub returns-else-in_span : goal.returns-else-in_span
returns-else-in_span c =
    let a = c.args in
    span_of_lem a.scissors.now a.n a.r a.y (omega arith) false (sym (row-held c.before.before) ∙ c.if-in_span.false)
