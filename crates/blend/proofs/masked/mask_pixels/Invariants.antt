-- `blend::mask_pixels` meets its contract: the pixels before i are stored, and the others are as they were. Assumes nothing.
use lib.ListN.{get_or}
use Rattle.raster.specs.Surface.{pixel_in}
use Rattle.raster.specs.Rows.{Stored}
use Rattle.blend.specs.PorterDuff.{composite_on}
use Rattle.blend.proofs.masked.mask_pixels.Given as goal

-- `blend::mask_pixels` meets its contract: the pixels before i are stored, and the others are as they were. Assumes nothing.
abbrev pub invariant-loop-i : goal.invariant-loop-i
invariant-loop-i l =
    Stored (λ j. composite_on l.mode l.coverage (get_or l.mask j 0) (pixel_in l.src j) (pixel_in l.initial.row j)) l.initial.row l.i l.row
