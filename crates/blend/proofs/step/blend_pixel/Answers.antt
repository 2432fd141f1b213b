-- `blend::blend_pixel` meets its contract: B of each channel is stored. Assumes nothing.
use Rattle.blend.specs.Unmasked.{unmasked_byte}
use Rattle.blend.proofs.step.blend_pixel.Goals as goal

pub returns : goal.returns
unfolding unmasked_byte
returns c =
    rw (
      c.stored_pixel.ensures,
      c.blended_pixel.ensures,
      c.destination_factor-fd.ensures,
      c.source_factor-fs.ensures,
    )
