-- `outline::flatten::flatten` meets its contract: the edges so far are those of the segments passed.
use mathlib.Core.Path.{◌≡◌, sym, subst, ◌∙◌}
use native.Mathlib.Nat.{zero-add}
use native.Mathlib.Omega.{arith}
use lib.ListN.{length, get_or}
use Rattle.path.specs.declared.Walk.{Walk}
use Rattle.path.specs.declared.Curve.{Curve}
use Rattle.path.specs.Segments.{line_to, drawn_by}
use Rattle.path.specs.Curves.{drawn_edges, edges_to, path_edges}
use Rattle.path.specs.Limits.{Supplied}
use Rattle.outline.specs.Asked.{PenPlaced, CurvePlaced}
use Rattle.outline.proofs.Counts.{edges_count}
use Rattle.outline.proofs.Sizes.{curve_placed, segment_supplied, pen_placed}
use Rattle.outline.proofs.Stores.{puts_more}
use Rattle.outline.proofs.Walked.{traced_curve, traced_walk, edges_more, edges_all}
use Rattle.outline.proofs.flatten.flatten.Goals as goal

pub trace-t-requires : goal.trace-t-requires
trace-t-requires c =
    let a = c.args in
    let l = c.loop-i in
    subst (λ (w : Walk). Supplied a.coordinates.now w (get_or a.segments.now l.i 0)) (sym l.invariant.1)
    (segment_supplied a.m a.segments.now a.coordinates.now c.requires.limited.0 l.i a.n (omega arith) c.requires.limited.1)

pub store_segment-count-requires : goal.store_segment-count-requires
store_segment-count-requires c =
    let a = c.args in
    let l = c.loop-i in
    let t = c.trace-t in
    let limited = c.requires.limited.0 in
    let accepted = c.requires.limited.1 in
    record {
      n_in_bounds = omega (arith, edges_count a.m a.segments.now a.coordinates.now l.i);
      limited = (
        limited,
        (
          subst (λ (w : Walk). PenPlaced a.m w.pen) (sym l.invariant.1)
              (pen_placed a.m a.segments.now a.coordinates.now limited l.i a.n (omega arith) accepted),
          subst (λ (v : Curve). CurvePlaced a.m v)
              (sym (traced_curve a.m a.segments.now a.coordinates.now l.i l.walk l.invariant.1 t.result t.ensures))
              (curve_placed a.m a.segments.now a.coordinates.now limited l.i a.n (omega arith) accepted),
        ),
      );
    }

pub loop-i-preserved : goal.loop-i-preserved
loop-i-preserved c =
    let a = c.args in
    let l = c.loop-i in
    let t = c.trace-t in
    let e = c.store_segment-count in
    let ss = a.segments.now in
    let cs = a.coordinates.now in
    let drawn = drawn_edges a.m l.walk.pen (drawn_by l.walk.pen (get_or ss l.i 0) t.result.curve) in
    let more = edges_more a.m ss cs l.i l.walk l.invariant.1 t.result t.ensures in (
      e.auto.edges ∙ l.invariant.0,
      traced_walk a.m ss cs l.i l.walk l.invariant.1 t.result t.ensures,
      puts_more (edges_to a.m ss cs l.i) drawn a.edges.now 0 more l.invariant.2 (e.ensures.edges_after, e.ensures.value),
    )

pub store_closing-requires : goal.store_closing-requires
store_closing-requires c =
    let a = c.args in
    let l = c.loop-i in
    let limited = c.requires.limited.0 in
    record {
      n_in_bounds = omega (arith, edges_count a.m a.segments.now a.coordinates.now l.i);
      limited = (
        limited,
        subst (λ (w : Walk). PenPlaced a.m w.pen) (sym l.invariant.1)
            (pen_placed a.m a.segments.now a.coordinates.now limited l.i a.n (omega arith) c.requires.limited.1),
      );
    }

pub returns : goal.returns
returns c =
    let a = c.args in
    let l = c.loop-i in
    let ss = a.segments.now in
    let cs = a.coordinates.now in
    let last : l.i ≡ a.n = omega arith in
    let drawn = drawn_edges a.m l.walk.pen (line_to l.walk.pen.start) in
    let all = puts_more (edges_to a.m ss cs l.i) drawn a.edges.now 0 (edges_all a.m ss cs l.i l.walk l.invariant.1 a.n last) l.invariant.2
    (c.store_closing.ensures.edges_after, c.store_closing.ensures.value) in
    record { edges_after = all.0; value = all.1 ∙ zero-add (length (path_edges a.m ss cs a.n)) }
