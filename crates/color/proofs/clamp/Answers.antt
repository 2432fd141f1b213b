-- `color::clamp` meets its contract: each way of the two tests is a case of `clamped`. Assumes nothing.
use lib.Ieee.{of_bits, lt}
use Rattle.color.proofs.clamp.Goals as goal

pub returns-then-v-2 : goal.returns-then-v-2
unfolding of_bits lt
returns-then-v-2 c =
    rw (c.if-v.true, c.if-v-2.true)

pub returns-else-v-2 : goal.returns-else-v-2
unfolding of_bits lt
returns-else-v-2 c =
    rw (c.if-v.true, c.if-v-2.false)

pub returns-else-v : goal.returns-else-v
unfolding of_bits lt
returns-else-v c =
    rw c.if-v.false
