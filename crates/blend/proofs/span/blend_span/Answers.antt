-- `blend::blend_span` meets its contract: the pixels before i are stored, and the others are as they were. Assumes nothing.
use mathlib.Core.Path.{ap, ◌∙◌}
use Prim.Native.Nat.{ℕ}
use native.Mathlib.Omega.{arith}
use Rattle.color.specs.declared.Pixel.{Pixel}
use Rattle.raster.proofs.Runs.{stored_step, stored_all}
use Rattle.blend.specs.Unmasked.{unmasked_on}
use Rattle.blend.proofs.span.blend_span.Goals as goal

pub loop-i-preserved : goal.loop-i-preserved
loop-i-preserved c =
    let a = c.args in
    let step : ℕ → Pixel → Pixel = λ j. unmasked_on a.mode a.coverage a.src in
    let made = c.blend_pixel-p in
    let put = c.put_pixel in
    stored_step step c.loop-i.invariant put.new.s made.result put.ensures (made.ensures
    ∙ ap (step 0) c.pixel.ensures) (omega arith)

pub returns : goal.returns
returns c =
    stored_all c.loop-i.invariant c.args.n (omega arith) c.requires.1
