-- `rows::mask_bytes` meets its contract.
use mathlib.Core.Path.{refl}
use Rattle.engine.proofs.rows.mask_bytes.Goals as goal

pub returns-then-masked : goal.returns-then-masked
returns-then-masked c =
    rw c.if-masked.true (refl, refl)

pub returns : goal.returns
returns c =
    rw c.if-masked.false (refl, refl)
