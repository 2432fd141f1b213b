-- `blend::composite_masked_runs` meets its contract: the runs before j are stored, and the other pixels are as they were. Assumes nothing.
use mathlib.Core.Path.{◌≡◌}
use Prim.Native.Nat.{◌+◌}
use lib.ListN.{get_or}
use Rattle.runs.specs.Runs.{start_of, expand}
use Rattle.raster.specs.Surface.{pixel_in}
use Rattle.raster.specs.Rows.{Stored}
use Rattle.blend.specs.PorterDuff.{composite_on}
use Rattle.blend.proofs.row.composite_masked_runs.Given as goal

-- `blend::composite_masked_runs` meets its contract: the runs before j are stored, and the other pixels are as they were. Assumes nothing.
abbrev pub invariant-loop-j : goal.invariant-loop-j
invariant-loop-j l =
    (l.first + l.a ≡ start_of l.runs l.j)
    × Stored (λ i. composite_on l.mode (get_or (expand l.runs l.n) (l.first + i) 0) (get_or l.mask i 0) (pixel_in l.src i) (pixel_in l.initial.row i))
    l.initial.row l.a l.row
