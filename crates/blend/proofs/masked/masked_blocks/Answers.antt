-- `blend::masked_blocks` meets its contract: the pixels before i are stored, and the others are as they were. Assumes nothing.
use mathlib.Core.Path.{ap₂, ◌∙◌}
use Prim.Native.Nat.{ℕ, ◌-◌, ◌*◌}
use native.Mathlib.Omega.{arith}
use lib.ListN.{get_or, take, drop}
use Rattle.color.specs.declared.Pixel.{Pixel}
use Rattle.raster.specs.Surface.{pixel_in}
use Rattle.raster.proofs.Runs.{stored_all}
use Rattle.blend.specs.PorterDuff.{composite_on}
use Rattle.blend.proofs.Spans.{part_turn, part_paint, part_mask}
use Rattle.blend.proofs.masked.masked_blocks.Goals as goal

pub loop-i-preserved : goal.loop-i-preserved
loop-i-preserved c =
    let a = c.args in
    let l = c.loop-i in
    let e = c.min-e.result in
    let t = c.min-e.ensures in
    let call = c.masked_block in
    let step : ℕ → Pixel → Pixel = λ j. composite_on a.mode a.coverage (get_or a.mask.now j 0) (pixel_in a.src.now j) in
    let lent : ℕ → Pixel → Pixel = λ j.
    composite_on a.mode a.coverage (get_or (take (e - l.i) (drop l.i a.mask.now)) j 0)
    (pixel_in (take (e * 4 - l.i * 4) (drop (l.i * 4) a.src.now)) j) in (
      omega (arith, t),
      c.blended-1.given.1 ∙ l.invariant.1,
      c.wide-1.given.1 ∙ l.invariant.2,
      part_turn step lent l.row a.row.now call.new.row l.i e (omega (arith, t)) (omega (arith, t, c.requires.coverage_bound.3)) l.invariant.3
          (λ j h p.
          ap₂ (λ (m : ℕ) (q : Pixel). composite_on a.mode a.coverage m q p) (part_mask a.mask.now l.i e j h)
          (part_paint a.src.now l.i e j h))
          call.ensures,
    )

pub returns : goal.returns
returns c =
    stored_all c.loop-i.invariant.3 c.args.n (omega arith) c.requires.coverage_bound.3
