-- `judge::mask_wrong` meets its contract.
use Rattle.render.proofs.judge.mask_wrong.Goals as goal

pub returns-then-masked : goal.returns-then-masked
returns-then-masked c =
    rw c.if-masked.true

pub returns-else-masked : goal.returns-else-masked
returns-else-masked c =
    rw c.if-masked.false
