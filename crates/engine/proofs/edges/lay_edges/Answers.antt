use native.Mathlib.Omega.{arith}
use Rattle.engine.proofs.Scratch.{flatten_asked, edges_laid, edges_cleared}
use Rattle.engine.proofs.edges.lay_edges.Goals as goal

pub fixed_matrix-requires : goal.fixed_matrix-requires
fixed_matrix-requires c =
    (c.requires.d_len.0, c.requires.d_len.1.fields.matrix)

pub flatten-requires : goal.flatten-requires
flatten-requires c =
    let asked = flatten_asked c.args.edition c.args.d.now _ _ _ _ c.fixed_matrix.ensures
    c.segments.ensures c.coordinates.ensures c.segment_count.ensures.0
    c.requires.d_len.1 c.requires.d_len.0 in
    record { n_bound = asked.0; limited = asked.1; in_bounds = omega arith }

pub returns : goal.returns
returns c =
    let e = c.args.edition in
    let d = c.args.d.now in
    let l = c.args.scratch.now in
    let m = c.fixed_matrix.ensures in
    let ss = c.segments.ensures in
    let cs = c.coordinates.ensures in
    let n = c.segment_count.ensures.0 in
    let f = c.flatten in
    record {
      laid = edges_laid e d _ _ _ _ m ss cs n c.requires.d_len.1 l _ _ c.requires.blank.0 c.requires.blank.1 f.ensures.edges_after f.ensures.value;
      scratch_after = edges_cleared e d _ _ _ _ m ss cs n c.requires.d_len.1 l _ _ c.requires.blank.0 c.requires.blank.1 f.ensures.edges_after f.ensures.value;
    }
