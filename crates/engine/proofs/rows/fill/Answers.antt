-- `rows::fill` meets its contract: the rows' step is the draw's own, in Src too where its paint hides.
use mathlib.Core.List.{List}
use mathlib.Core.Path.{sym, ap, subst}
use Prim.Native.Nat.{◌*◌, ◌≤◌}
use native.Mathlib.Omega.{arith}
use Prim.Native.Nat.{ℕ}
use lib.ListN.{length}
use Rattle.path.specs.Stored.{edges_of}
use Rattle.coverage.specs.Scanline.{Outlined}
use Rattle.scene.specs.Fields.{scissoring, scissor_count}
use Rattle.engine.specs.declared.Style.{Style}
use Rattle.engine.specs.Picture.{mask_at}
use Rattle.engine.specs.Rows.{Few, shade_at, Shaded, MaskFor, SameBlend}
use Rattle.engine.proofs.Paints.{few_chosen, own_steps, scissors_length, styled}
use Rattle.engine.proofs.rows.fill.Goals as goal

pub hiding-style-requires : goal.hiding-style-requires
hiding-style-requires c =
    subst (λ (z : Style). Shaded z.shade c.shade-shade.new.ramp) (sym c.style.ensures) c.shade-shade.ensures.asked

pub invariant_of-brush : goal.invariant_of-brush
invariant_of-brush c =
    let a = c.args in
    let e = sym (styled a.d.now a.n c.shade-shade.result c.style.result c.hiding-style.result c.style.ensures c.hiding-style.ensures.value) in
    let long = subst (λ (z : List ℕ). 64 ≤ length z) (sym c.scissors.ensures) (omega (arith, scissors_length a.d.now c.requires.d_len.0)) in
    record {
      shaded = subst (λ (z : Style). Shaded z.shade c.shade-shade.new.ramp) e c.shade-shade.ensures.asked;
      cut = (subst (λ (z : Style). Few z.scissors) e (few_chosen (scissoring a.d.now) (scissor_count a.d.now) c.requires.d_len.1.scissors), long);
    }

pub invariant_of-fill : goal.invariant_of-fill
invariant_of-fill c =
    let a = c.args in
    let e = sym (styled a.d.now a.n c.shade-shade.result c.style.result c.hiding-style.result c.style.ensures c.hiding-style.ensures.value) in
    record { masked = subst (λ (z : Style). MaskFor z.masked (a.target.height * a.target.width) a.mask.now) e c.requires.part.1 }

pub draw-requires : goal.draw-requires
draw-requires c =
    let a = c.args in
    let e = sym (styled a.d.now a.n c.shade-shade.result c.style.result c.hiding-style.result c.style.ensures c.hiding-style.ensures.value) in
    record { outlined = subst (λ (z : Style). Outlined a.scratch.now z.edges) e c.requires.outlined; part = c.requires.part.0 }

pub returns : goal.returns
returns c =
    let a = c.args in
    let call = c.draw in
    let shade = c.shade-shade in
    let hiding = c.hiding-style in
    let e = styled a.d.now a.n shade.result c.style.result hiding.result c.style.ensures hiding.ensures.value in
    let edges = ap (λ (z : Style). edges_of a.scratch.now z.edges) e in
    let same = subst (λ (z : Style). SameBlend hiding.result.mode z.mode (shade_at z.shade shade.new.ramp)) c.style.ensures hiding.ensures.same_blend in
    record {
      scratch_unchanged = call.ensures.scratch_unchanged;
      surface_after = own_steps a.d.now a.n hiding.result.mode shade.result shade.new.ramp shade.ensures.paint same a.target (edges_of a.scratch.now a.n) _
          (mask_at a.target.width a.mask.now) a.surface.now call.new.surface hiding.result _ e edges c.scissors.ensures call.ensures.surface_after;
    }
