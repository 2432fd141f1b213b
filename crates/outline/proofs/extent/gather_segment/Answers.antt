-- `outline::extent::gather_segment` meets its contract.
use Prim.Native.Nat.{◌≤◌}
use native.Mathlib.Omega.{arith}
use lib.ListN.{length}
use Rattle.path.specs.Matrices.{transform}
use Rattle.path.specs.Segments.{drawn_by}
use Rattle.path.specs.Curves.{transform_curve, drawn_edges}
use Rattle.outline.proofs.Counts.{curve_count}
use Rattle.outline.proofs.Merged.{alike_trans, stored_alike}
use Rattle.outline.proofs.extent.gather_segment.Goals as goal

pub merge-requires : goal.merge-requires
merge-requires c =
    let a = c.args in
    let e = c.store_segment-all in
    let few : length (drawn_edges a.m a.pen (drawn_by a.pen a.byte a.c)) ≤ 16 = curve_count (transform a.m a.pen.current)
    (transform_curve a.m (drawn_by a.pen a.byte a.c)) in
    (omega (arith, few, e.ensures.value, e.auto.edges, c.requires), omega (arith, e.auto.edges, c.requires))

pub returns : goal.returns
returns c =
    let a = c.args in
    let e = c.store_segment-all in
    let r = c.merge.ensures in
    let few : length (drawn_edges a.m a.pen (drawn_by a.pen a.byte a.c)) ≤ 16 = curve_count (transform a.m a.pen.current)
    (transform_curve a.m (drawn_by a.pen a.byte a.c)) in
    record {
      alike = alike_trans r.alike
          (stored_alike a.ends.now _ a.n (drawn_edges a.m a.pen (drawn_by a.pen a.byte a.c)) e.result e.ensures.edges_after e.ensures.value
          (omega (arith, few, c.requires)));
      upper_bound = r.upper_bound;
    }
