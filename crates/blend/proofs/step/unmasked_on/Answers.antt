-- `blend::unmasked_on` meets its contract: what it answers without arithmetic is the same by the channel's laws. Assumes nothing.
use mathlib.Core.Path.{sym, ◌∙◌}
use native.Mathlib.Omega.{arith}
use Rattle.blend.proofs.Shortcuts.{uncovered_stores, hiding_replaces}
use Rattle.blend.proofs.step.unmasked_on.Goals as goal

pub returns-then-coverage-eq0 : goal.returns-then-coverage-eq0
returns-then-coverage-eq0 c =
    rw c.if-coverage-eq0.true (sym (uncovered_stores c.args.mode c.args.src c.args.read))

pub returns-then-hides : goal.returns-then-hides
returns-then-hides c =
    let a = c.args in
    rw c.if-coverage-eq16.true
    (sym (hiding_replaces a.mode a.src a.read (omega arith) (omega arith) (omega arith) (omega arith) (sym c.hides.ensures
    ∙ c.if-hides.true)))
