-- `blend::mask_pixels` meets its contract: the pixels before i are stored, and the others are as they were. Assumes nothing.
use mathlib.Core.Path.{ap₂, ◌∙◌}
use Prim.Native.Nat.{ℕ}
use native.Mathlib.Omega.{arith}
use lib.ListN.{get_or}
use Rattle.color.specs.declared.Pixel.{Pixel}
use Rattle.raster.specs.Surface.{pixel_in}
use Rattle.raster.proofs.Runs.{stored_step, stored_all}
use Rattle.blend.specs.PorterDuff.{composite_on}
use Rattle.blend.proofs.masked.mask_pixels.Goals as goal

pub loop-i-preserved : goal.loop-i-preserved
loop-i-preserved c =
    let a = c.args in
    let m = get_or a.mask.now c.loop-i.i 0 in
    let step : ℕ → Pixel → Pixel = λ j. composite_on a.mode a.coverage (get_or a.mask.now j 0) (pixel_in a.src.now j) in
    let made = c.composite_on-p in
    let put = c.put_pixel in
    stored_step step c.loop-i.invariant put.new.s made.result put.ensures
    (made.ensures ∙ ap₂ (composite_on a.mode a.coverage m) c.pixel.ensures c.pixel-in-loop-i.ensures)
    (omega (arith, c.requires))

pub returns : goal.returns
returns c =
    stored_all c.loop-i.invariant c.args.n (omega arith) c.requires.3
