-- `blend::keep_row` meets its contract: the pixels before i are stored, and the others are as they were. Assumes nothing.
use Rattle.raster.specs.Surface.{pixel_in}
use Rattle.raster.specs.Rows.{Stored}
use Rattle.blend.specs.Spans.{keep_pixel}
use Rattle.blend.proofs.bytewise.keep_row.Given as goal

-- `blend::keep_row` meets its contract: the pixels before i are stored, and the others are as they were. Assumes nothing.
abbrev pub invariant-loop-i : goal.invariant-loop-i
invariant-loop-i l = Stored (λ j. keep_pixel (pixel_in l.src j)) l.initial.keep l.i l.keep
