use mathlib.Core.Path.{◌≡◌, ap, ap₂, ◌∙◌, sym}
use Prim.Native.Nat.{ℕ, ◌+◌, ◌-◌}
use native.Mathlib.Omega.{arith}
use Rattle.difference.specs.Compare.{same_pixel}
use Rattle.difference.specs.Rows.{with_pixel, with_pixels}
use Rattle.difference.proofs.Turns.{differs_is, pixel_same, pixel_noted, no_pixels, count_small, pixels_noted}
use Rattle.difference.proofs.rows.with_pixels.Goals as goal

pub loop-x-init : goal.loop-x-init
loop-x-init c =
    let a = c.args in
    no_pixels a.width a.y a.a.now a.b.now a.f a.width (a.width - a.width) (omega arith)

pub with_pixel-found-requires : goal.with_pixel-found-requires
with_pixel-found-requires c =
    let l = c.loop-x in
    let a = c.args in
    let t = c.requires.noted in
    let e : l.x + (a.width - l.x) ≡ a.width = omega arith in (
      rw l.invariant (count_small a.width a.y a.a.now a.b.now a.f t (a.width - l.x) l.x e (omega arith)),
      omega (arith, t.low),
      omega arith,
      t.narrow,
    )

pub loop-x-preserved-then-ne : goal.loop-x-preserved-then-ne
unfolding same_pixel
loop-x-preserved-then-ne c =
    let l = c.loop-x in
    let a = c.args in
    let noted = pixel_noted a.width a.y a.a.now a.b.now a.f (l.x - 1) l.x (a.width - (l.x - 1)) (a.width - l.x) in
    c.with_pixel-found.ensures
    ∙ ap (with_pixel a.width a.y (l.x - 1)) l.invariant
    ∙ sym (noted (omega arith) (omega arith)
    (differs_is a.a.now a.b.now (l.x - 1) c.pixel.result c.pixel-in-loop-x.result c.ne.result c.ne.ensures
    c.pixel.ensures c.pixel-in-loop-x.ensures ∙ c.if-ne.true))

pub loop-x-preserved : goal.loop-x-preserved
unfolding same_pixel
loop-x-preserved c =
    let l = c.loop-x in
    let a = c.args in
    let same = pixel_same a.width a.y a.a.now a.b.now a.f (l.x - 1) l.x (a.width - (l.x - 1)) (a.width - l.x) in
    l.invariant
    ∙ sym (same (omega arith) (omega arith)
    (differs_is a.a.now a.b.now (l.x - 1) c.pixel.result c.pixel-in-loop-x.result c.ne.result c.ne.ensures
    c.pixel.ensures c.pixel-in-loop-x.ensures ∙ c.if-ne.false))

pub returns : goal.returns
returns c =
    let l = c.loop-x in
    let a = c.args in
    let z : l.x ≡ 0 = omega arith in
    let n : a.width - l.x ≡ a.width = omega arith in
    let e : l.found ≡ with_pixels a.width a.y a.a.now a.b.now 0 a.width a.f =
    l.invariant ∙ ap₂ (λ (x m : ℕ). with_pixels a.width a.y a.a.now a.b.now x m a.f) z n in
    record { value = e; noted_2 = rw e (pixels_noted a.width a.y a.a.now a.b.now a.f c.requires.noted) }
