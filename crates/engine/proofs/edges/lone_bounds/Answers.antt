use mathlib.Core.Path.{◌∙◌}
use Rattle.engine.specs.Picture.{draw_edges}
use Rattle.engine.proofs.Scratch.{flatten_asked}
use Rattle.engine.proofs.edges.lone_bounds.Goals as goal

pub fixed_matrix-requires : goal.fixed_matrix-requires
fixed_matrix-requires c =
    (c.requires.d_len.0, c.requires.d_len.1.fields.matrix)

pub path_bounds-requires : goal.path_bounds-requires
path_bounds-requires c =
    let asked = flatten_asked c.args.edition c.args.d.now _ _ _ _ c.fixed_matrix.ensures
    c.segments.ensures c.coordinates.ensures c.segment_count.ensures.0
    c.requires.d_len.1 c.requires.d_len.0 in
    record { n_bound = asked.0; limited = asked.1; width_bound = c.requires.width_bound }

pub returns : goal.returns
unfolding draw_edges
returns c =
    c.path_bounds.ensures
    ∙ rw (
      c.fixed_matrix.ensures,
      c.segments.ensures,
      c.coordinates.ensures,
      c.segment_count.ensures.0,
    )
