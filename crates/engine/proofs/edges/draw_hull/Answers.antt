-- `engine::edges::draw_hull` meets its contract.
use Rattle.engine.specs.Picture.{draw_edges}
use Rattle.engine.proofs.Scratch.{flatten_asked}
use Rattle.engine.proofs.edges.draw_hull.Goals as goal

pub fixed_matrix-requires : goal.fixed_matrix-requires
fixed_matrix-requires c =
    (c.requires.d_len.0, c.requires.d_len.1.fields.matrix)

pub path_hull-requires : goal.path_hull-requires
path_hull-requires c =
    let asked = flatten_asked c.args.edition c.args.d.now _ _ _ _ c.fixed_matrix.ensures
    c.segments.ensures c.coordinates.ensures c.segment_count.ensures.0
    c.requires.d_len.1 c.requires.d_len.0 in
    record { n_bound = asked.0; limited = asked.1; width_bound = c.requires.width_bound }

pub returns : goal.returns
unfolding draw_edges
returns c =
    rw (
      c.fixed_matrix.ensures,
      c.segments.ensures,
      c.coordinates.ensures,
      c.segment_count.ensures.0,
    ) at c.path_hull.ensures
