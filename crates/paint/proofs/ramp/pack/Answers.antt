-- `ramp::pack` meets its contract: four bytes fit 32 bits.
use Rattle.std.proofs.Common.{refl}
use Rattle.paint.specs.Buffers.{packed}
use Rattle.paint.proofs.ramp.pack.Goals as goal

pub returns : goal.returns
unfolding packed
returns c =
    refl
