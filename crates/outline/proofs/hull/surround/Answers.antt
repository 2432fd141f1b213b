-- `outline::hull::surround` meets its contract: the box is around the edges of the segments passed.
use mathlib.Core.Path.{◌≡◌, sym, subst}
use mathlib.Core.List.{List}
use native.Mathlib.Omega.{arith}
use lib.ListN.{get_or}
use Rattle.path.specs.declared.Edge.{Edge}
use Rattle.path.specs.declared.Walk.{Walk}
use Rattle.path.specs.declared.Curve.{Curve}
use Rattle.path.specs.Segments.{line_to, drawn_by}
use Rattle.path.specs.Curves.{drawn_edges, edges_to}
use Rattle.path.specs.Limits.{Supplied}
use Rattle.outline.specs.Asked.{PenPlaced, CurvePlaced}
use Rattle.outline.specs.Around.{Around}
use Rattle.outline.proofs.Around.{around_none, around_more}
use Rattle.outline.proofs.Sizes.{curve_placed, segment_supplied, pen_placed}
use Rattle.outline.proofs.Walked.{traced_curve, traced_walk, edges_more, edges_all}
use Rattle.outline.proofs.hull.surround.Goals as goal

pub loop-i-init : goal.loop-i-init
loop-i-init c =
    (c.new-walk.ensures, around_none _)

pub trace-t-requires : goal.trace-t-requires
trace-t-requires c =
    let a = c.args in
    let l = c.loop-i in
    subst (λ (w : Walk). Supplied a.coordinates.now w (get_or a.segments.now l.i 0)) (sym l.invariant.0)
    (segment_supplied a.m a.segments.now a.coordinates.now c.requires.limited.0 l.i a.n (omega arith) c.requires.limited.1)

pub add_segment-c-requires : goal.add_segment-c-requires
add_segment-c-requires c =
    let a = c.args in
    let l = c.loop-i in
    let t = c.trace-t in
    let limited = c.requires.limited.0 in
    let accepted = c.requires.limited.1 in (
      limited,
      (
        subst (λ (w : Walk). PenPlaced a.m w.pen) (sym l.invariant.0)
            (pen_placed a.m a.segments.now a.coordinates.now limited l.i a.n (omega arith) accepted),
        subst (λ (v : Curve). CurvePlaced a.m v)
            (sym (traced_curve a.m a.segments.now a.coordinates.now l.i l.walk l.invariant.0 t.result t.ensures))
            (curve_placed a.m a.segments.now a.coordinates.now limited l.i a.n (omega arith) accepted),
      ),
    )

pub loop-i-preserved : goal.loop-i-preserved
loop-i-preserved c =
    let a = c.args in
    let l = c.loop-i in
    let t = c.trace-t in
    let r = c.add_segment-c in
    let ss = a.segments.now in
    let cs = a.coordinates.now in
    let drawn = drawn_edges a.m l.walk.pen (drawn_by l.walk.pen (get_or ss l.i 0) t.result.curve) in (
      traced_walk a.m ss cs l.i l.walk l.invariant.0 t.result t.ensures,
      subst (λ (es : List Edge). Around r.result es) (edges_more a.m ss cs l.i l.walk l.invariant.0 t.result t.ensures)
          (around_more r.result l.c (edges_to a.m ss cs l.i) drawn r.ensures.0 l.invariant.1 r.ensures.1),
    )

pub add_closing-requires : goal.add_closing-requires
add_closing-requires c =
    let a = c.args in
    let l = c.loop-i in
    let limited = c.requires.limited.0 in (
      limited,
      subst (λ (w : Walk). PenPlaced a.m w.pen) (sym l.invariant.0)
          (pen_placed a.m a.segments.now a.coordinates.now limited l.i a.n (omega arith) c.requires.limited.1),
    )

pub returns : goal.returns
returns c =
    let a = c.args in
    let l = c.loop-i in
    let ss = a.segments.now in
    let cs = a.coordinates.now in
    let last : l.i ≡ a.n = omega arith in
    let drawn = drawn_edges a.m l.walk.pen (line_to l.walk.pen.start) in
    let r = c.add_closing in
    subst (λ (es : List Edge). Around r.result es) (edges_all a.m ss cs l.i l.walk l.invariant.0 a.n last)
    (around_more r.result l.c (edges_to a.m ss cs l.i) drawn r.ensures.0 l.invariant.1 r.ensures.1)
