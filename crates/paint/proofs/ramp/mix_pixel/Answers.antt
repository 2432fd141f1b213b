-- `ramp::mix_pixel` meets its contract.
use Rattle.paint.proofs.ramp.mix_pixel.Goals as goal

pub mix_byte-requires : goal.mix_byte-requires
mix_byte-requires c =
    c.requires

pub mix_byte-requires-2 : goal.mix_byte-requires-2
mix_byte-requires-2 c =
    c.requires

pub mix_byte-requires-3 : goal.mix_byte-requires-3
mix_byte-requires-3 c =
    c.requires

pub mix_byte-requires-4 : goal.mix_byte-requires-4
mix_byte-requires-4 c =
    c.requires

pub returns : goal.returns
returns c =
    rw (c.mix_byte.ensures, c.mix_byte-2.ensures, c.mix_byte-3.ensures, c.mix_byte-4.ensures)
