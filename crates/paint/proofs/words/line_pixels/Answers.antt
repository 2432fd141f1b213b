-- `words::line_pixels` meets its contract.
use Rattle.std.proofs.Common.{refl, to_z-of_z}
use Rattle.paint.proofs.words.line_pixels.Goals as goal

pub line_in-requires : goal.line_in-requires
line_in-requires c =
    record {
      first_bound = rw (to_z-of_z c.ranges.first, to_z-of_z c.ranges.step) (c.requires.first_bound.0, c.requires.first_bound.1, refl, refl);
      row_len = c.requires.row_len;
    }

pub returns : goal.returns
returns c =
    rw (to_z-of_z c.ranges.first, to_z-of_z c.ranges.step) at c.line_in.ensures
