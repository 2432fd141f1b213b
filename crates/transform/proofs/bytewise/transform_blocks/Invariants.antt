-- `transform::bytewise::transform_blocks` meets its contract: the pixels before i are transformed, and the others are as they were.
use Prim.Native.Nat.{◌-◌, ◌≤◌}
use Rattle.raster.specs.Surface.{pixel_in}
use Rattle.raster.specs.Rows.{Stored}
use Rattle.transform.specs.Transforms.{transform_channels}
use Rattle.transform.proofs.bytewise.transform_blocks.Given as goal

-- `transform::bytewise::transform_blocks` meets its contract: the pixels before i are transformed, and the others are as they were.
abbrev pub invariant-loop-i : goal.invariant-loop-i
invariant-loop-i l = (l.i ≤ l.n) × Stored (λ j. transform_channels l.t (pixel_in l.initial.row j)) l.initial.row l.i l.row

abbrev pub decreases-loop-i : goal.decreases-loop-i
decreases-loop-i l = l.n - l.i
