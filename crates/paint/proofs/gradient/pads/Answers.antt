-- `gradient::pads` meets its contract.
use Rattle.std.proofs.Common.{eq-eqb, ne_eqb}
use Rattle.paint.proofs.gradient.pads.Goals as goal

pub returns-then-mode-ne-REPEAT : goal.returns-then-mode-ne-REPEAT
returns-then-mode-ne-REPEAT c =
    rw (ne_eqb _ _ c.if-mode-ne-REPEAT.true)

pub returns-else-mode-ne-REPEAT : goal.returns-else-mode-ne-REPEAT
returns-else-mode-ne-REPEAT c =
    rw (eq-eqb _ _ c.if-mode-ne-REPEAT.false)
