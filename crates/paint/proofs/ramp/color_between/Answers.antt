-- `ramp::color_between` meets its contract: what is left to search gives the colour that the whole search gives.
use Rattle.std.proofs.Common.{◌≡◌, ◌+◌, ◌-◌, sym, refl, ◌∙◌, arith}
use Rattle.paint.proofs.Lookup.{between_here, between_on, between_end}
use Rattle.paint.proofs.ramp.color_between.Goals as goal

pub loop-j-init : goal.loop-j-init
loop-j-init c =
    (omega arith, omega arith, omega (arith, c.requires.first), refl)

pub mix_pixel-requires : goal.mix_pixel-requires
mix_pixel-requires c =
    let l = c.loop-j in
    (l.invariant.2, c.if-t-x.true, c.requires.below l.j (omega arith))

pub returns-then-t-x : goal.returns-then-t-x
returns-then-t-x c =
    let l = c.loop-j in
    let a = c.args in
    c.mix_pixel.ensures
    ∙ rw (c.stop_color.ensures, c.stop_color-then-t-x.ensures)
    (sym (l.invariant.3 ∙ between_here a.ramp.now _ l.j a.count a.t (omega arith) c.if-t-x.true))

pub loop-j-preserved : goal.loop-j-preserved
loop-j-preserved c =
    let l = c.loop-j in
    let a = c.args in
    let e : l.j + 1 - 1 ≡ l.j = omega arith in (
      omega arith,
      omega arith,
      rw e c.if-t-x.false,
      l.invariant.3 ∙ rw e (between_on a.ramp.now _ l.j a.count a.t (omega arith) c.if-t-x.false),
    )

pub returns : goal.returns
returns c =
    let l = c.loop-j in
    let a = c.args in
    let e : l.j ≡ a.count = omega arith in
    c.stop_color-2.ensures ∙ sym (l.invariant.3 ∙ between_end a.ramp.now _ l.j a.count a.t (omega arith) ∙ rw e)
