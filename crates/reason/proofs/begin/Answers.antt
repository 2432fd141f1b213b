-- `begin` meets its contract.
use Prim.Native.Nat.{ℕ}
use mathlib.Core.Path.{sym, ap, ap₂, ◌∙◌}
use native.Mathlib.Omega.{arith}
use Rattle.color.specs.declared.Pixel.{Pixel}
use Rattle.color.specs.Channels.{premultiplied}
use Rattle.render.specs.Answers.{mask_of}
use Rattle.render.proofs.Refusals.{accepted_block}
use Rattle.reason.specs.declared.Start.{Start}
use Rattle.reason.proofs.Refusals.{passed_ready, told_number, start_refused, start_accepted}
use Rattle.reason.proofs.begin.Goals as goal

abbrev begun : ℕ → Pixel → Start
begun n p = record { code = 0; draw = 64; offset = 0; draws = n; pixel = p }

-- a refusal's draw number
pub overflow_cast-result : goal.overflow_cast-result
overflow_cast-result c =
    let a = c.args in
    omega (arith, told_number a.scene.now (mask_of a.masked a.mask.now) a.x a.y c.in-Err.f (sym c.in-Err.is ∙ c.judge_pixel.ensures))

pub returns-in-Err : goal.returns-in-Err
returns-in-Err c =
    let a = c.args in
    rw c.number.ensures (start_refused a.scene.now (mask_of a.masked a.mask.now) a.x a.y c.in-Err.f (sym c.in-Err.is ∙ c.judge_pixel.ensures))

pub count-requires : goal.count-requires
count-requires c =
    let a = c.args in
    accepted_block a.masked _ (passed_ready a.scene.now (mask_of a.masked a.mask.now) a.x a.y (sym c.in-Ok.is ∙ c.judge_pixel.ensures)).scene

pub background-requires : goal.background-requires
background-requires c =
    let a = c.args in
    accepted_block a.masked _ (passed_ready a.scene.now (mask_of a.masked a.mask.now) a.x a.y (sym c.in-Ok.is ∙ c.judge_pixel.ensures)).scene

pub returns-in-Ok : goal.returns-in-Ok
returns-in-Ok c =
    let a = c.args in
    ap₂ begun c.count.ensures.0 (c.premultiplied.ensures ∙ ap premultiplied c.background.ensures)
    ∙ start_accepted a.scene.now (mask_of a.masked a.mask.now) a.x a.y (sym c.in-Ok.is ∙ c.judge_pixel.ensures)
