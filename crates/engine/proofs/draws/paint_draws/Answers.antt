-- `draws::paint_draws` meets its contract: the draws before i are painted.
use mathlib.Core.Path.{◌≡◌, refl, sym, ap₂, subst, ◌∙◌}
use mathlib.Core.List.{List}
use Prim.Native.Nat.{ℕ, ◌*◌, ◌<◌}
use native.Mathlib.Omega.{arith}
use lib.IntN.{ℤ}
use Rattle.raster.specs.Rows.{stepped}
use Rattle.raster.proofs.Overlay.{overlay_keep}
use Rattle.scene.specs.Header.{count_of, edition_of}
use Rattle.scene.specs.Fields.{uses_mask}
use Rattle.scene.specs.Accepted.{AcceptedDraw}
use Rattle.engine.specs.Picture.{first_draws, mask_at}
use Rattle.engine.specs.Unclamped.{unclamped_all}
use Rattle.engine.specs.Rows.{Blank, MaskFor}
use Rattle.engine.proofs.Steps.{draws_turn}
use Rattle.engine.proofs.draws.paint_draws.Goals as goal

pub edition-edition-requires : goal.edition-edition-requires
edition-edition-requires c =
    omega (arith, c.requires.accepted_scene.0.bytes)

pub loop-i-init : goal.loop-i-init
loop-i-init c =
    let a = c.args in
    let t = a.target in
    (omega arith, refl, refl, refl, overlay_keep t.width t.height t.area a.surface.now c.requires.part.0.long)

pub read_draw-requires : goal.read_draw-requires
read_draw-requires c =
    let p = c.requires.accepted_scene in
    record { i_in_bounds = omega (arith, p.0.bytes, p.1.0); out_len = c.loop-i.invariant.3 ∙ p.1.1 }

pub paint_draw-requires : goal.paint_draw-requires
paint_draw-requires c =
    let a = c.args in
    let l = c.loop-i in
    let r = c.read_draw in
    let there : l.i < count_of a.scene.now = omega (arith, c.requires.accepted_scene.1.0) in
    let accepted = c.requires.accepted_scene.0.draws l.i there in
    let asked = c.requires.part.1 l.i there in
    record {
      d_len = (
        r.auto.out ∙ l.invariant.3 ∙ c.requires.accepted_scene.1.1,
        subst (λ (z : ℕ). AcceptedDraw z r.new.out) (sym c.edition-edition.ensures)
            (subst (AcceptedDraw (edition_of a.scene.now)) (sym r.ensures) accepted),
      );
      blank = subst (λ (z : List ℤ). Blank z) (sym l.invariant.2) c.requires.blank;
      part = (
        record { placed = c.requires.part.0.placed; long = l.invariant.1 ∙ c.requires.part.0.long },
        subst (λ (z : List ℕ). MaskFor (uses_mask z) (a.target.height * a.target.width) a.mask.now) (sym r.ensures) asked,
      );
    }

pub loop-i-preserved : goal.loop-i-preserved
loop-i-preserved c =
    let a = c.args in
    let l = c.loop-i in
    let r = c.read_draw in
    let p = c.paint_draw in (
      omega (arith, c.loop-i-test.true),
      p.auto.surface ∙ l.invariant.1,
      p.ensures.scratch_unchanged ∙ l.invariant.2,
      r.auto.out ∙ l.invariant.3,
      draws_turn a.target c.edition-edition.result a.scene.now (mask_at a.target.width a.mask.now) l.surface p.new.surface
          r.new.out a.surface.now l.i r.ensures l.invariant.4 p.ensures.surface_after,
    )

pub returns : goal.returns
returns c =
    let a = c.args in
    let l = c.loop-i in
    let e : l.i ≡ a.count = omega arith in
    let drawn : ℕ → ℕ → List ℕ = λ edition k.
    stepped a.target (unclamped_all edition (first_draws a.scene.now k) (mask_at a.target.width a.mask.now)) a.surface.now in
    record { scratch_unchanged = l.invariant.2; surface_after = l.invariant.4 ∙ ap₂ drawn c.edition-edition.ensures e }
