use mathlib.Core.Path.{ap, ◌∙◌}
use native.Mathlib.Omega.{arith}
use Rattle.path.specs.Boxes.{box_of}
use Rattle.engine.proofs.edges.draw_bounds.Goals as goal

pub bounds-b-requires : goal.bounds-b-requires
bounds-b-requires c =
    let r = c.lay_edges-n.ensures.laid.ready in
    (omega (arith, r.few, r.room), c.requires.width_bound)

pub clear_edges-requires : goal.clear_edges-requires
clear_edges-requires c =
    let r = c.lay_edges-n.ensures.laid.ready in
    omega (arith, r.few, r.room)

pub returns : goal.returns
returns c =
    let a = c.args in
    let l = c.lay_edges-n in
    record {
      value = c.bounds-b.ensures ∙ ap (box_of a.width a.height) l.ensures.laid.edges;
      scratch_unchanged = c.clear_edges.ensures ∙ l.ensures.scratch_after;
    }
