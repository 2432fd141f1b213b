-- `blend::over_kept` meets its contract: the pixels before i are blended, and the others are as they were. Assumes nothing.
use mathlib.Core.Path.{◌≡◌}
use Prim.Native.Nat.{◌-◌, ◌≤◌}
use lib.ListN.{length}
use Rattle.raster.specs.Surface.{pixel_in}
use Rattle.raster.specs.Rows.{Stored}
use Rattle.blend.specs.PorterDuff.{mode_src_over}
use Rattle.blend.specs.Unmasked.{unmasked_on}
use Rattle.blend.proofs.span.over_kept.Given as goal

-- `blend::over_kept` meets its contract: the pixels before i are blended, and the others are as they were. Assumes nothing.
abbrev pub invariant-loop-i : goal.invariant-loop-i
invariant-loop-i l =
    (l.i ≤ l.n) × (length l.keep ≡ 512) × Stored (λ j. unmasked_on mode_src_over l.coverage (pixel_in l.src j) (pixel_in l.initial.row j)) l.initial.row
    l.i l.row

abbrev pub decreases-loop-i : goal.decreases-loop-i
decreases-loop-i l = l.n - l.i
