-- `gradient::row_step` meets its contract.
use Rattle.std.proofs.Common.{ℤ, nat_abs, ◌∙◌, ap₂, w64}
use Rattle.fixed.proofs.Means.{Num, need, keep, lit, sub, mul}
use Rattle.fixed.proofs.Signed.{back}
use Rattle.paint.specs.Buffers.{quotient_of, row_step}
use Rattle.paint.proofs.Sizes.{sized}
use Rattle.paint.proofs.Slope.{squared_is, above}
use Rattle.paint.proofs.gradient.row_step.Goals as goal
use Rattle.paint.proofs.gradient.row_step.Tie as tie
use Rattle.paint.proofs.gradient.row_step.Lts as lts
use Rattle.paint.proofs.gradient.row_step.Reads as reads

abbrev apart : lts.Start tie.the-claims reads.Pre reads.Post → Num
apart c = sub (sized 1048576 c.args.p.x1 tt c.requires.0.x1) (sized 1048576 c.args.p.x0 tt c.requires.0.x0)

abbrev product : lts.Start tie.the-claims reads.Pre reads.Post → Num
product c = mul (lit 16777216) (keep w64 (apart c) tt)

pub overflow_sub-p : goal.overflow_sub-p
overflow_sub-p c =
    need (apart c.before.before.before) tt

pub overflow_mul-p : goal.overflow_mul-p
overflow_mul-p c =
    need (product c.before.before.before) tt

pub squared_length-requires : goal.squared_length-requires
squared_length-requires c =
    c.requires.0

pub quotient-requires : goal.quotient-requires
quotient-requires c =
    let d = c.squared_length in
    rw (back w64 d.result d.type_inv, d.ensures) (above (squared_is c.args.p) c.requires.1)

pub returns : goal.returns
unfolding row_step
returns c =
    let d = c.squared_length in
    c.quotient.ensures
    ∙ ap₂ (λ (a b : ℤ). quotient_of a (nat_abs b)) (keep w64 (product c.before.before.before.before) tt).same (back w64 d.result d.type_inv ∙ d.ensures)
