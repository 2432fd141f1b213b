-- `opacity::has_opaque_stops` meets its contract: the stops before i are opaque.
use Rattle.std.proofs.Common.{◌≡◌, T, sym, ap, ◌∙◌, subst, arith, below_more}
use Rattle.color.specs.declared.Pixel.{Pixel}
use Rattle.paint.specs.Buffers.{stop_at}
use Rattle.paint.specs.Opaque.{OpaqueStops}
use Rattle.paint.proofs.opacity.has_opaque_stops.Goals as goal

pub loop-i-init : goal.loop-i-init
loop-i-init c =
    λ j h. absurd (omega arith)

pub returns-then-stop_color : goal.returns-then-stop_color
returns-then-stop_color c e =
    absurd (subst T (sym e) tt)

pub loop-i-preserved : goal.loop-i-preserved
loop-i-preserved c =
    let l = c.loop-i in
    let ramp = c.args.ramp.now in
    let here = sym (ap (λ (p : Pixel). p.a) c.stop_color.ensures) ∙ c.if-stop_color.false in
    below_more (λ j. (stop_at ramp j).color.a ≡ 255) l.i l.invariant here

pub returns : goal.returns
returns c =
    let l = c.loop-i in
    let e : l.i ≡ c.args.count = omega (arith, c.loop-i-test.false) in
    λ t. subst (OpaqueStops c.args.ramp.now) e l.invariant
