-- `blend::masked_blocks` meets its contract: the pixels before i are stored, and the others are as they were. Assumes nothing.
use mathlib.Core.Path.{◌≡◌}
use Prim.Native.Nat.{◌-◌, ◌≤◌}
use lib.ListN.{length, get_or}
use Rattle.raster.specs.Surface.{pixel_in}
use Rattle.raster.specs.Rows.{Stored}
use Rattle.blend.specs.PorterDuff.{composite_on}
use Rattle.blend.proofs.masked.masked_blocks.Given as goal

-- `blend::masked_blocks` meets its contract: the pixels before i are stored, and the others are as they were. Assumes nothing.
abbrev pub invariant-loop-i : goal.invariant-loop-i
invariant-loop-i l =
    (l.i ≤ l.n) × (length l.blended ≡ 512) × (length l.wide ≡ 512)
    × Stored (λ j. composite_on l.mode l.coverage (get_or l.mask j 0) (pixel_in l.src j) (pixel_in l.initial.row j)) l.initial.row l.i l.row

abbrev pub decreases-loop-i : goal.decreases-loop-i
decreases-loop-i l = l.n - l.i
