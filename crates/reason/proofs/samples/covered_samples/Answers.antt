-- `samples::covered_samples` meets its contract.
use mathlib.Core.Path.{◌∙◌}
use native.Mathlib.Omega.{arith}
use Rattle.engine.proofs.Scratch.{flatten_asked}
use Rattle.reason.proofs.Held.{path_summed, draw_counted}
use Rattle.reason.proofs.Summed.{zeros_summed}
use Rattle.reason.proofs.samples.covered_samples.Goals as goal

pub add_path-requires : goal.add_path-requires
add_path-requires c =
    let p = c.requires in
    let asked = flatten_asked c.args.edition c.args.d.now _ _ _ _ c.fixed_matrix.ensures c.segments.ensures
    c.coordinates.ensures c.segment_count.ensures.0 p.d_len.1 p.d_len.0 in
    record { n_bound = asked.0; limited = asked.1; x_bound = (p.x_bound.0, p.x_bound.1, zeros_summed) }

pub count_inside-requires : goal.count_inside-requires
count_inside-requires c =
    path_summed _ _ _ _ _ _ _ _ zeros_summed c.add_path.ensures
    (omega (arith, c.segment_count.ensures.0, c.requires.d_len.1.fields.segments))

pub returns : goal.returns
returns c =
    let a = c.args in
    c.count_inside.ensures
    ∙ draw_counted _ _ _ _ _ _ _ _ zeros_summed c.add_path.ensures a.edition a.d.now _ c.fixed_matrix.ensures
    c.segments.ensures c.coordinates.ensures c.segment_count.ensures.0 c.non_zero_rule.ensures
