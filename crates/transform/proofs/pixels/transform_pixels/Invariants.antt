-- `transform::pixels::transform_pixels` meets its contract: the pixels before i are transformed, the others as they were, and q is the last one transformed.
use mathlib.Core.Path.{◌≡◌}
use Rattle.raster.specs.Surface.{pixel_in}
use Rattle.raster.specs.Rows.{Stored}
use Rattle.transform.specs.Transforms.{transformed}
use Rattle.transform.proofs.pixels.transform_pixels.Given as goal

abbrev pub invariant-loop-i : goal.invariant-loop-i
invariant-loop-i l = Stored (λ j. transformed l.t (pixel_in l.initial.row j)) l.initial.row l.i l.row × (l.q ≡ transformed l.t l.last)
