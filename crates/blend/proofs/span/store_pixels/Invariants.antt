-- `blend::store_pixels` meets its contract: the pixels before i are stored, and the others are as they were. Assumes nothing.
use Rattle.raster.specs.Surface.{pixel_in}
use Rattle.raster.specs.Rows.{Stored}
use Rattle.blend.specs.Spans.{stored_pixel}
use Rattle.blend.proofs.span.store_pixels.Given as goal

-- `blend::store_pixels` meets its contract: the pixels before i are stored, and the others are as they were. Assumes nothing.
abbrev pub invariant-loop-i : goal.invariant-loop-i
invariant-loop-i l = Stored (λ j. stored_pixel l.coverage l.src (pixel_in l.initial.row j)) l.initial.row l.i l.row
