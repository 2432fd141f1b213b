-- `words::lowest_alpha` meets its contract: no alpha before i is below low.
use Rattle.std.proofs.Common.{◌≡◌, ℕ, length, ap, subst, arith}
use Rattle.color.specs.declared.Pixel.{Pixel}
use Rattle.paint.specs.Segments.{Covering}
use Rattle.paint.proofs.Begins.{covering_none, covering_turn}
use Rattle.paint.proofs.words.lowest_alpha.Goals as goal

pub loop-i-init : goal.loop-i-init
loop-i-init c =
    covering_none _ _

pub loop-i-preserved : goal.loop-i-preserved
loop-i-preserved c =
    let l = c.loop-i in
    let ws = c.args.ws.now in
    let alpha = ap (λ (p : Pixel). p.a) c.unpack.ensures in
    covering_turn l.low c.min-low.result l.i ws l.invariant (omega (arith, c.min-low.ensures)) (omega (arith, c.min-low.ensures, alpha))

pub returns : goal.returns
returns c =
    let l = c.loop-i in
    let ws = c.args.ws.now in
    let e : l.i ≡ length ws = omega (arith, c.loop-i-test.false) in
    subst (λ (n : ℕ). Covering l.low n ws) e l.invariant
