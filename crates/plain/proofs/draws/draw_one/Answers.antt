-- `plain::draws::draw_one` meets its contract. Assumes nothing.
use mathlib.Core.Path.{ap, ◌∙◌}
use mathlib.Core.List.{List}
use native.Mathlib.Omega.{arith}
use Rattle.path.specs.declared.Edge.{Edge}
use Rattle.engine.specs.Picture.{step_of, mask_at}
use Rattle.plain.specs.Asked.{pixelwise}
use Rattle.plain.proofs.draws.draw_one.Goals as goal

pub draw_laid-requires : goal.draw_laid-requires
draw_laid-requires c =
    let laid = c.lay_edges-n.ensures.laid in
    let p = c.requires in
    record {
      d_len = (p.d_len.0, p.d_len.1.fields);
      outlined = laid.ready;
      surface_len = p.surface_len;
      mask_for = p.mask_for;
    }

pub clear_edges-requires : goal.clear_edges-requires
clear_edges-requires c =
    let r = c.lay_edges-n.ensures.laid.ready in
    omega (arith, r.few, r.room)

pub returns : goal.returns
returns c =
    let l = c.lay_edges-n in
    let a = c.args in
    let own = ap (λ (es : List Edge). pixelwise a.width a.height (step_of es a.d.now (mask_at a.width a.mask.now)) a.surface.now)
    l.ensures.laid.edges in
    record { scratch_unchanged = c.clear_edges.ensures ∙ l.ensures.scratch_after; surface_after = c.draw_laid.ensures ∙ own }
