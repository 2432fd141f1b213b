-- `color::byte_channel` meets its contract: the code is the definition. Assumes nothing.
use Rattle.std.proofs.Common.{refl}
use lib.Ieee.{of_bits}
use Rattle.color.specs.Channels.{byte_channel}
use Rattle.color.proofs.byte_channel.Goals as goal

pub returns : goal.returns
unfolding of_bits byte_channel
returns c =
    refl
