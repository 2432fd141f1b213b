-- `judge::judge_lent` meets its contract: the surface, then the mask, then the scratch.
use native.Mathlib.Nat.{mul-le-mul}
use native.Mathlib.Omega.{arith}
use Prim.Native.Nat.{ℕ, ◌*◌, ◌≤◌, ◌<◌}
use mathlib.Core.Path.{◌∙◌, sym}
use Rattle.render.specs.Answers.{mask_of}
use Rattle.render.proofs.Refusals.{lent_wrong, mask_refused, lent_short, lent_passes}
use Rattle.render.proofs.judge.judge_lent.Goals as goal

product : (w h : ℕ) → w < 65536 → h < 65536 → w * h ≤ 65535 * 65535
product w h a b =
    let c : w ≤ 65535 = omega arith in
    let d : h ≤ 65535 = omega arith in
    mul-le-mul c d

pub overflow_mul-pixels : goal.overflow_mul-pixels
overflow_mul-pixels c =
    omega (arith, product c.args.width c.args.height c.requires.0 c.requires.1)

pub overflow_mul-pixels-2 : goal.overflow_mul-pixels-2
overflow_mul-pixels-2 c =
    omega (arith, product c.args.width c.args.height c.requires.0 c.requires.1)

pub returns-then-surface-pixels : goal.returns-then-surface-pixels
returns-then-surface-pixels c =
    let a = c.args in
    c.refusal.ensures ∙ sym (lent_wrong a.width a.height (mask_of a.masked a.mask.now) a.surface a.scratch c.if-surface-pixels.true)

pub returns-then-mask_wrong : goal.returns-then-mask_wrong
returns-then-mask_wrong c =
    let a = c.args in
    c.refusal-then-mask_wrong.ensures
    ∙ sym (mask_refused a.width a.height (mask_of a.masked a.mask.now) a.surface a.scratch c.if-surface-pixels.false
    (sym c.mask_wrong.ensures ∙ c.if-mask_wrong.true))

pub returns-then-scratch-lt-SCRATCH_NUMBERS : goal.returns-then-scratch-lt-SCRATCH_NUMBERS
returns-then-scratch-lt-SCRATCH_NUMBERS c =
    let a = c.args in
    c.refusal-then-scratch-lt-SCRATCH_NUMBERS.ensures
    ∙ sym (lent_short a.width a.height (mask_of a.masked a.mask.now) a.surface a.scratch c.if-surface-pixels.false
    (sym c.mask_wrong.ensures ∙ c.if-mask_wrong.false)
    c.if-scratch-lt-SCRATCH_NUMBERS.true)

pub returns : goal.returns
returns c =
    let a = c.args in
    c.refusal-2.ensures
    ∙ sym (lent_passes a.width a.height (mask_of a.masked a.mask.now) a.surface a.scratch c.if-surface-pixels.false
    (sym c.mask_wrong.ensures ∙ c.if-mask_wrong.false)
    c.if-scratch-lt-SCRATCH_NUMBERS.false)
