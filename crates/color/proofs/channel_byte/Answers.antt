-- `color::channel_byte` meets its contract: the code is the definition's own chain of float operations. Assumes nothing.
use Rattle.std.proofs.Common.{ap, ◌∙◌}
use lib.Ieee.{Float, of_bits, to_unsigned, add, mul, binary32}
use Rattle.color.specs.Channels.{channel_byte, full, half}
use Rattle.color.proofs.channel_byte.Goals as goal

pub returns : goal.returns
unfolding of_bits channel_byte
returns c =
    c.saturating_f32_to_u8.ensures
    ∙ ap (λ (x : Float). to_unsigned 8 (add binary32 (mul binary32 x full) half)) c.clamp.ensures
