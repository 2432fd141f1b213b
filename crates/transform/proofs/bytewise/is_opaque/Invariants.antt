-- `transform::bytewise::is_opaque` meets its contract: the alpha that is left is at most that of each pixel up to i.
use Prim.Native.Nat.{ℕ, ◌/◌, ◌≤◌, ◌<◌}
use Rattle.raster.specs.Surface.{pixel_in}
use Rattle.transform.proofs.bytewise.is_opaque.Given as goal

abbrev pub invariant-loop-i : goal.invariant-loop-i
invariant-loop-i l = (j : ℕ) → j < l.i → l.all / 16777216 ≤ (pixel_in l.row j).a
