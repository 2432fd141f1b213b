-- `plain::draws::draw_first` meets its contract. Assumes nothing.
use mathlib.Core.Path.{◌≡◌, refl, sym, subst, ◌∙◌}
use mathlib.Core.List.{List}
use Prim.Native.Nat.{ℕ, ◌*◌, ◌<◌}
use native.Mathlib.Omega.{arith}
use lib.IntN.{ℤ}
use Rattle.scene.specs.Header.{count_of, edition_of}
use Rattle.scene.specs.Fields.{uses_mask}
use Rattle.scene.specs.Accepted.{AcceptedDraw}
use Rattle.engine.specs.Picture.{mask_at}
use Rattle.engine.specs.Rows.{Blank, MaskFor}
use Rattle.plain.proofs.Pixelwise.{draws_none, draws_turn}
use Rattle.plain.proofs.draws.draw_first.Goals as goal

pub edition-edition-requires : goal.edition-edition-requires
edition-edition-requires c =
    let p = c.requires.accepted_scene in omega (arith, p.0.bytes)

pub loop-i-init : goal.loop-i-init
loop-i-init c =
    let a = c.args in
    let mask = mask_at a.width a.mask.now in
    let none = draws_none a.width a.height c.edition-edition.result a.scene.now mask a.surface.now c.requires.surface_len.0 in
    (omega arith, refl, refl, refl, none)

pub read_draw-requires : goal.read_draw-requires
read_draw-requires c =
    let p = c.requires.accepted_scene in
    record { i_in_bounds = omega (arith, p.0.bytes, p.1.0); out_len = c.loop-i.invariant.3 ∙ p.1.1 }

pub draw_one-requires : goal.draw_one-requires
draw_one-requires c =
    let r = c.read_draw in
    let l = c.loop-i in
    let edition = c.edition-edition in
    let a = c.args in
    let p = c.requires in
    let there : l.i < count_of a.scene.now = omega (arith, p.accepted_scene.1.0) in
    let accepted = p.accepted_scene.0.draws l.i there in
    let asked = p.mask_for_scene l.i there in
    record {
      d_len = (
        r.auto.out ∙ l.invariant.3 ∙ p.accepted_scene.1.1,
        subst (λ (z : ℕ). AcceptedDraw z r.new.out) (sym edition.ensures)
            (subst (AcceptedDraw (edition_of a.scene.now)) (sym r.ensures) accepted),
      );
      blank = subst (λ (z : List ℤ). Blank z) (sym l.invariant.2) p.blank;
      surface_len = (l.invariant.1 ∙ p.surface_len.0, p.surface_len.1, p.surface_len.2);
      mask_for = subst (λ (z : List ℕ). MaskFor (uses_mask z) (a.height * a.width) a.mask.now) (sym r.ensures) asked;
    }

pub loop-i-preserved : goal.loop-i-preserved
loop-i-preserved c =
    let p = c.draw_one in
    let r = c.read_draw in
    let l = c.loop-i in
    let a = c.args in (
      omega (arith, c.loop-i-test.true),
      p.auto.surface ∙ l.invariant.1,
      p.ensures.scratch_unchanged ∙ l.invariant.2,
      r.auto.out ∙ l.invariant.3,
      draws_turn a.width a.height c.edition-edition.result a.scene.now (mask_at a.width a.mask.now) l.surface p.new.surface
          r.new.out a.surface.now l.i r.ensures l.invariant.4 p.ensures.surface_after,
    )

pub returns : goal.returns
returns c =
    let l = c.loop-i in
    let a = c.args in
    let e : l.i ≡ a.n = omega (arith, c.loop-i-test.false, l.invariant.0) in
    record { scratch_unchanged = l.invariant.2; surface_after = rw (e, c.edition-edition.ensures) at l.invariant.4 }
