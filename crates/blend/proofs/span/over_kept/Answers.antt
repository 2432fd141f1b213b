-- `blend::over_kept` meets its contract: the pixels before i are blended, and the others are as they were. Assumes nothing.
use mathlib.Core.Path.{ap}
use Prim.Native.Nat.{ℕ, ◌-◌, ◌*◌}
use native.Mathlib.Omega.{arith}
use lib.ListN.{take, drop}
use Rattle.color.specs.declared.Pixel.{Pixel}
use Rattle.raster.specs.Surface.{pixel_in}
use Rattle.raster.proofs.Runs.{stored_all}
use Rattle.blend.specs.PorterDuff.{mode_src_over}
use Rattle.blend.specs.Unmasked.{unmasked_on}
use Rattle.blend.proofs.Spans.{part_turn, part_paint}
use borrow.Author.Rules.{rules}
use Rattle.blend.proofs.span.over_kept.Goals as goal

pub loop-i-preserved : goal.loop-i-preserved
loop-i-preserved c =
    let a = c.args in
    let l = c.loop-i in
    let e = c.min-e.result in
    let t = c.min-e.ensures in
    let call = c.over_block in
    let step : ℕ → Pixel → Pixel = λ j. unmasked_on mode_src_over a.coverage (pixel_in a.src.now j) in (
      omega (arith, t),
      search rules,
      part_turn step (λ j. unmasked_on mode_src_over a.coverage (pixel_in (take (e * 4 - l.i * 4) (drop (l.i * 4) a.src.now)) j))
          l.row a.row.now call.new.row l.i e (omega (arith, t)) (omega (arith, t, c.requires.2)) l.invariant.2
          (λ j h p. ap (λ (q : Pixel). unmasked_on mode_src_over a.coverage q p) (part_paint a.src.now l.i e j h)) call.ensures,
    )

pub returns : goal.returns
returns c =
    stored_all c.loop-i.invariant.2 c.args.n (omega arith) c.requires.2
