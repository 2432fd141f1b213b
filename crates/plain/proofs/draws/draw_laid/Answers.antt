-- `plain::draws::draw_laid` meets its contract.
use mathlib.Core.List.{List}
use mathlib.Core.Path.{sym, subst}
use Prim.Native.Nat.{ℕ, ◌*◌, ◌≤◌}
use native.Mathlib.Omega.{arith}
use lib.ListN.{length}
use Rattle.coverage.specs.Scanline.{Outlined}
use Rattle.scene.specs.Fields.{scissoring, scissor_count}
use Rattle.engine.specs.declared.Style.{Style}
use Rattle.engine.specs.Picture.{mask_at}
use Rattle.engine.specs.Rows.{Few, Shaded, MaskFor}
use Rattle.engine.proofs.Paints.{few_chosen, scissors_length}
use Rattle.plain.proofs.Pixelwise.{own_steps}
use Rattle.plain.proofs.draws.draw_laid.Goals as goal

pub invariant_of-brush : goal.invariant_of-brush
invariant_of-brush c =
    let a = c.args in
    let e = sym c.style.ensures in
    let long = subst (λ (z : List ℕ). 64 ≤ length z) (sym c.scissors.ensures) (omega (arith, scissors_length a.d.now c.requires.d_len.0)) in
    record {
      shaded = subst (λ (z : Style). Shaded z.shade c.shade-shade.new.ramp) e c.shade-shade.ensures.asked;
      cut = (subst (λ (z : Style). Few z.scissors) e (few_chosen (scissoring a.d.now) (scissor_count a.d.now) c.requires.d_len.1.scissors), long);
    }

pub invariant_of-draw : goal.invariant_of-draw
invariant_of-draw c =
    record { outlined = subst (λ (z : Style). Outlined c.args.scratch.now z.edges) (sym c.style.ensures) c.requires.outlined }

pub draw-requires : goal.draw-requires
draw-requires c =
    let a = c.args in
    record {
      surface_len = c.requires.surface_len;
      mask_for = subst (λ (z : Style). MaskFor z.masked (a.height * a.width) a.mask.now) (sym c.style.ensures) c.requires.mask_for;
    }

pub returns : goal.returns
returns c =
    let a = c.args in
    let shade = c.shade-shade in
    own_steps a.width a.height a.scratch.now a.d.now _ shade.new.ramp (mask_at a.width a.mask.now) c.style.result a.n
    shade.result a.surface.now c.draw.new.surface c.style.ensures c.scissors.ensures shade.ensures.paint c.draw.ensures
