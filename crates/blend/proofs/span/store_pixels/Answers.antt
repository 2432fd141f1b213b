-- `blend::store_pixels` meets its contract: the pixels before i are stored, and the others are as they were. Assumes nothing.
use mathlib.Core.Path.{ap, ◌∙◌}
use Prim.Native.Nat.{ℕ}
use native.Mathlib.Omega.{arith}
use Rattle.color.specs.declared.Pixel.{Pixel}
use Rattle.raster.proofs.Runs.{stored_step, stored_all}
use Rattle.blend.specs.Spans.{stored_pixel}
use Rattle.blend.proofs.span.store_pixels.Goals as goal

pub loop-i-preserved : goal.loop-i-preserved
loop-i-preserved c =
    let a = c.args in
    let step : ℕ → Pixel → Pixel = λ j p. stored_pixel a.coverage a.src p in
    let made = c.stored_pixel-p in
    let put = c.put_pixel in
    stored_step step c.loop-i.invariant put.new.s made.result put.ensures (made.ensures ∙ ap (step 0) c.pixel.ensures)
    (omega arith)

pub returns : goal.returns
returns c =
    stored_all c.loop-i.invariant c.args.n (omega arith) c.requires.1
