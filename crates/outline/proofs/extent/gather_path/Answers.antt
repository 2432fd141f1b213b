-- `outline::extent::gather_path` meets its contract: what is kept has the box of the segments passed, whatever follows.
use mathlib.Core.Path.{◌≡◌, sym, subst, ◌∙◌}
use native.Mathlib.Omega.{arith}
use lib.ListN.{get_or}
use Rattle.path.specs.declared.Walk.{Walk}
use Rattle.path.specs.declared.Curve.{Curve}
use Rattle.path.specs.Matrices.{transform}
use Rattle.path.specs.Segments.{line_to, drawn_by}
use Rattle.path.specs.Curves.{transform_curve, drawn_edges, edges_to}
use Rattle.path.specs.Stored.{edges_of}
use Rattle.path.specs.Limits.{Supplied}
use Rattle.outline.specs.Asked.{PenPlaced, CurvePlaced}
use Rattle.outline.proofs.Counts.{curve_count}
use Rattle.outline.proofs.Sizes.{curve_placed, segment_supplied, pen_placed}
use Rattle.outline.proofs.Merged.{alike_same, alike_trans, alike_more, stored_alike}
use Rattle.outline.proofs.Walked.{traced_curve, traced_walk, edges_more, edges_all}
use Rattle.outline.proofs.extent.gather_path.Goals as goal

pub trace-t-requires : goal.trace-t-requires
trace-t-requires c =
    let a = c.args in
    let l = c.loop-i in
    subst (λ (w : Walk). Supplied a.coordinates.now w (get_or a.segments.now l.i 0)) (sym l.invariant.1)
    (segment_supplied a.m a.segments.now a.coordinates.now c.requires.limited.0 l.i a.n (omega arith) c.requires.limited.1)

pub gather_segment-count-requires : goal.gather_segment-count-requires
gather_segment-count-requires c =
    let a = c.args in
    let l = c.loop-i in
    let t = c.trace-t in
    let limited = c.requires.limited.0 in
    let accepted = c.requires.limited.1 in
    record {
      n_bound = (l.invariant.2, omega (arith, l.invariant.0, c.requires));
      limited = (
        limited,
        (
          subst (λ (w : Walk). PenPlaced a.m w.pen) (sym l.invariant.1)
              (pen_placed a.m a.segments.now a.coordinates.now limited l.i a.n (omega arith) accepted),
          subst (λ (v : Curve). CurvePlaced a.m v)
              (sym (traced_curve a.m a.segments.now a.coordinates.now l.i l.walk l.invariant.1 t.result t.ensures))
              (curve_placed a.m a.segments.now a.coordinates.now limited l.i a.n (omega arith) accepted),
        ),
      );
    }

pub loop-i-preserved : goal.loop-i-preserved
loop-i-preserved c =
    let a = c.args in
    let l = c.loop-i in
    let t = c.trace-t in
    let e = c.gather_segment-count in
    let ss = a.segments.now in
    let cs = a.coordinates.now in
    let drawn = drawn_edges a.m l.walk.pen (drawn_by l.walk.pen (get_or ss l.i 0) t.result.curve) in
    let more = edges_more a.m ss cs l.i l.walk l.invariant.1 t.result t.ensures in (
      e.auto.ends ∙ l.invariant.0,
      traced_walk a.m ss cs l.i l.walk l.invariant.1 t.result t.ensures,
      e.ensures.upper_bound,
      alike_trans e.ensures.alike (alike_trans (alike_more (edges_of l.ends l.count) (edges_to a.m ss cs l.i) drawn l.invariant.3) (alike_same more)),
    )

pub store_closing-requires : goal.store_closing-requires
store_closing-requires c =
    let a = c.args in
    let l = c.loop-i in
    let limited = c.requires.limited.0 in
    record {
      n_in_bounds = omega (arith, l.invariant.0, l.invariant.2, c.requires);
      limited = (
        limited,
        subst (λ (w : Walk). PenPlaced a.m w.pen) (sym l.invariant.1)
            (pen_placed a.m a.segments.now a.coordinates.now limited l.i a.n (omega arith) c.requires.limited.1),
      );
    }

pub returns : goal.returns
returns c =
    let a = c.args in
    let l = c.loop-i in
    let e = c.store_closing in
    let ss = a.segments.now in
    let cs = a.coordinates.now in
    let last : l.i ≡ a.n = omega arith in
    let pen = l.walk.pen in
    let drawn = drawn_edges a.m pen (line_to pen.start) in
    let few = curve_count (transform a.m pen.current) (transform_curve a.m (line_to pen.start)) in
    let stored = stored_alike l.ends _ l.count drawn e.result e.ensures.edges_after e.ensures.value (omega (
      arith,
      few,
      l.invariant.0,
      l.invariant.2,
      c.requires,
    )) in
    record {
      alike = alike_trans stored (alike_trans (alike_more (edges_of l.ends l.count) (edges_to a.m ss cs l.i) drawn l.invariant.3)
          (alike_same (edges_all a.m ss cs l.i l.walk l.invariant.1 a.n last)));
      upper_bound = omega (arith, few, l.invariant.2, e.ensures.value);
    }
