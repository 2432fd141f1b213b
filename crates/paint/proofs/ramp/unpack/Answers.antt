-- `ramp::unpack` meets its contract.
use Rattle.std.proofs.Common.{refl}
use Rattle.paint.specs.Buffers.{unpacked}
use Rattle.paint.proofs.ramp.unpack.Goals as goal

pub returns : goal.returns
unfolding unpacked
returns c =
    refl
