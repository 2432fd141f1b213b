-- `blend::is_opaque` meets its contract: up to i every pixel has all bits that are left. Assumes nothing.
use Prim.Native.Nat.{ℕ, ◌≤◌, ◌<◌}
use Rattle.raster.specs.Surface.{pixel_in}
use Rattle.blend.specs.Spans.{word_of}
use Rattle.blend.proofs.bytewise.is_opaque.Given as goal

-- `blend::is_opaque` meets its contract: up to i every pixel has all bits that are left. Assumes nothing.
abbrev pub invariant-loop-i : goal.invariant-loop-i
invariant-loop-i l = ((j : ℕ) → j < l.i → l.all ≤ word_of (pixel_in l.src j))
