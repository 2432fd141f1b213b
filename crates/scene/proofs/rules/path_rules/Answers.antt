use Rattle.std.proofs.Common.{ℕ, ◌+◌, ◌*◌, arith, ap, ap₂, ◌∙◌}
use Rattle.path.proofs.Entries.{matrix_limited}
use Rattle.lists.proofs.Laws.{part_length}
use Rattle.scene.specs.Layout.{segments_at, segments_end, draw_bytes}
use Rattle.scene.specs.Fields.{matrix_of}
use Rattle.scene.specs.Faults.{unused}
use Rattle.scene.specs.Rules.{rest_rules}
use Rattle.scene.proofs.First.{stops, passes}
use Rattle.scene.proofs.Paths.{checked_of, path_segment, path_met, path_kept, path_used, path_fits}
use Rattle.scene.proofs.rules.path_rules.Goals as goal

pub check-requires : goal.check-requires
check-requires c =
    let d = c.args.d.now in
    let long = part_length d segments_at segments_end (omega arith) (omega (arith, c.requires.d_len.0)) in
    let few = c.requires.d_len.1 in
    (rw c.fixed_matrix.ensures (matrix_limited (matrix_of d) c.requires.d_value), rw c.segments.ensures (omega (arith, long, c.segment_count-n.ensures.0)))

pub map_err-requires : goal.map_err-requires
map_err-requires c =
    let d = c.args.d.now in
    let e = c.args.edition in
    let walk =
    checked_of e d c.fixed_matrix.result c.segments.result.now c.coordinates.result.now c.segment_count-n.result c.check.result
    c.fixed_matrix.ensures c.segments.ensures c.coordinates.ensures c.segment_count-n.ensures.0 c.check.ensures in
    λ f q. let s = path_segment e d c.check.result walk f q in omega (arith, s, c.requires.d_len.1)

pub returns-in_err-used : goal.returns-in_err-used
returns-in_err-used c =
    let d = c.args.d.now in
    let e = c.args.edition in
    let walk =
    checked_of e d c.fixed_matrix.result c.segments.result.now c.coordinates.result.now c.segment_count-n.result c.check.result
    c.fixed_matrix.ensures c.segments.ensures c.coordinates.ensures c.segment_count-n.ensures.0 c.check.ensures in
    stops c.from_residual.result _ _ _ c.from_residual.ensures.1 (path_met e d c.check.result walk c.map_err.result c.map_err.ensures.cases _ c.in_err-used.was)

pub overflow_mul-used : goal.overflow_mul-used
overflow_mul-used c =
    let d = c.args.d.now in
    let e = c.args.edition in
    let walk =
    checked_of e d c.fixed_matrix.result c.segments.result.now c.coordinates.result.now c.segment_count-n.result c.check.result
    c.fixed_matrix.ensures c.segments.ensures c.coordinates.ensures c.segment_count-n.ensures.0 c.check.ensures in
    let fits = path_fits e d c.check.result walk c.map_err.result c.map_err.ensures.cases c.in_ok-used.used c.in_ok-used.was c.requires.d_len.0 in
    omega (arith, fits)

pub overflow_add-coordinates_at : goal.overflow_add-coordinates_at
overflow_add-coordinates_at c =
    let d = c.args.d.now in
    let e = c.args.edition in
    let walk =
    checked_of e d c.fixed_matrix.result c.segments.result.now c.coordinates.result.now c.segment_count-n.result c.check.result
    c.fixed_matrix.ensures c.segments.ensures c.coordinates.ensures c.segment_count-n.ensures.0 c.check.ensures in
    let fits = path_fits e d c.check.result walk c.map_err.result c.map_err.ensures.cases c.in_ok-used.used c.in_ok-used.was c.requires.d_len.0 in
    omega (arith, fits, c.coordinates_at.ensures.0)

pub returns-in_err-unused : goal.returns-in_err-unused
unfolding rest_rules
returns-in_err-unused c =
    let d = c.args.d.now in
    let e = c.args.edition in
    let walk =
    checked_of e d c.fixed_matrix.result c.segments.result.now c.coordinates.result.now c.segment_count-n.result c.check.result
    c.fixed_matrix.ensures c.segments.ensures c.coordinates.ensures c.segment_count-n.ensures.0 c.check.ensures in
    let kept = path_kept e d c.check.result walk c.map_err.result c.map_err.ensures.cases c.in_ok-used.used c.in_ok-used.was in
    let left = c.from_residual-in_err-unused in
    let n = ap (λ (n : ℕ). unused d (segments_at + n) segments_end) c.segment_count-n.ensures.0 in
    passes _ _ _ kept (stops left.result _ _ _ left.ensures.1 (c.in_err-unused.ensures ∙ n))

pub returns : goal.returns
unfolding rest_rules
returns c =
    let d = c.args.d.now in
    let e = c.args.edition in
    let walk =
    checked_of e d c.fixed_matrix.result c.segments.result.now c.coordinates.result.now c.segment_count-n.result c.check.result
    c.fixed_matrix.ensures c.segments.ensures c.coordinates.ensures c.segment_count-n.ensures.0 c.check.ensures in
    let kept = path_kept e d c.check.result walk c.map_err.result c.map_err.ensures.cases c.in_ok-used.used c.in_ok-used.was in
    let used = path_used e d c.check.result walk c.map_err.result c.map_err.ensures.cases c.in_ok-used.used c.in_ok-used.was in
    let n = ap (λ (n : ℕ). unused d (segments_at + n) segments_end) c.segment_count-n.ensures.0 in
    let past = ap₂ (λ (a b : ℕ). unused d (a + 2 * b) draw_bytes) c.coordinates_at.ensures.0 used in
    passes _ _ _ kept (passes _ _ _ (c.in_ok-unused.ensures ∙ n) (c.unused-2.ensures ∙ past))
