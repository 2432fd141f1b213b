-- `blend::over_laid` meets its contract: the pixels before i are blended, and the others are as they were. Assumes nothing.
use Prim.Native.Nat.{◌-◌, ◌≤◌}
use Rattle.raster.specs.Surface.{pixel_in}
use Rattle.raster.specs.Rows.{Stored}
use Rattle.blend.specs.PorterDuff.{mode_src_over}
use Rattle.blend.specs.Unmasked.{unmasked_on}
use Rattle.blend.proofs.span.over_laid.Given as goal

-- `blend::over_laid` meets its contract: the pixels before i are blended, and the others are as they were. Assumes nothing.
abbrev pub invariant-loop-i : goal.invariant-loop-i
invariant-loop-i l = (l.i ≤ l.n) × Stored (λ j. unmasked_on mode_src_over l.coverage (pixel_in l.paint 0) (pixel_in l.initial.row j)) l.initial.row l.i l.row

abbrev pub decreases-loop-i : goal.decreases-loop-i
decreases-loop-i l = l.n - l.i
