-- `blend::composite_on` meets its contract: a whole mask is none, and where no sample is covered the pixel stays. Assumes nothing.
use mathlib.Core.Path.{sym, ◌∙◌}
use Rattle.blend.proofs.Masks.{whole_mask_step, uncovered_masked}
use Rattle.blend.proofs.step.composite_on.Goals as goal

pub returns-then-mask-eq255 : goal.returns-then-mask-eq255
returns-then-mask-eq255 c =
    let a = c.args in
    rw c.if-mask-eq255.true (c.unmasked_on.ensures ∙ whole_mask_step a.mode a.coverage a.src a.read c.requires)

pub returns-then-coverage-eq0 : goal.returns-then-coverage-eq0
returns-then-coverage-eq0 c =
    let a = c.args in
    rw c.if-coverage-eq0.true (sym (uncovered_masked a.mode a.mask a.src a.read))
