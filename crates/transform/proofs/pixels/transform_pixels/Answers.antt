-- `transform::pixels::transform_pixels` meets its contract: the pixels before i are transformed, the others as they were, and q is the last one transformed.
use mathlib.Core.Path.{ap, ◌∙◌}
use Prim.Native.Nat.{ℕ}
use native.Mathlib.Omega.{arith}
use Rattle.color.specs.declared.Pixel.{Pixel}
use Rattle.raster.proofs.Runs.{stored_step, stored_all}
use Rattle.transform.specs.Transforms.{transformed}
use Rattle.transform.proofs.pixels.transform_pixels.Goals as goal

pub loop-i-preserved : goal.loop-i-preserved
loop-i-preserved c =
    let made = c.transform_after-q in
    let put = c.put_pixel in
    let step : ℕ → Pixel → Pixel = λ j. transformed c.args.t in (
      stored_step step c.loop-i.invariant.0 put.new.s made.result put.ensures (made.ensures
          ∙ ap (step 0) c.pixel-p.ensures) (omega arith),
      made.ensures,
    )

pub returns : goal.returns
returns c =
    stored_all c.loop-i.invariant.0 c.args.n (omega arith) c.requires.1
