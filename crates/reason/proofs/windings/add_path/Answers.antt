-- `windings::add_path` meets its contract: the sums so far are those of the segments passed.
use mathlib.Core.Path.{◌≡◌, sym, ap, ap₂, subst, ◌∙◌}
use mathlib.Core.List.{List}
use native.Mathlib.Omega.{arith}
use lib.ListN.{get_or}
use lib.IntN.{ℤ}
use Rattle.path.specs.declared.Walk.{Walk}
use Rattle.path.specs.declared.Curve.{Curve}
use Rattle.path.specs.declared.Edge.{Edge}
use Rattle.path.specs.Segments.{line_to, drawn_by}
use Rattle.path.specs.Curves.{drawn_edges, edges_to}
use Rattle.path.specs.Limits.{Supplied}
use Rattle.outline.specs.Asked.{CurvePlaced}
use Rattle.outline.proofs.Counts.{edges_count}
use Rattle.outline.proofs.Sizes.{curve_placed, segment_supplied}
use Rattle.outline.proofs.Walked.{traced_curve, traced_walk, edges_more, edges_all}
use Rattle.reason.specs.Summed.{wound}
use Rattle.reason.proofs.Summed.{wound_none, wound_append, wound_small}
use Rattle.reason.proofs.Held.{held_edges, walk_placed, segment_held, closing_held}
use Rattle.reason.proofs.windings.add_path.Goals as goal

pub loop-i-init : goal.loop-i-init
loop-i-init c =
    let a = c.args in
    (c.new-walk.ensures, wound_none a.x a.y a.sums.now c.requires.x_bound.2.room)

pub trace-t-requires : goal.trace-t-requires
trace-t-requires c =
    let l = c.loop-i in
    let a = c.args in
    subst (λ (w : Walk). Supplied a.coordinates.now w (get_or a.segments.now l.i 0)) (sym l.invariant.0)
    (segment_supplied a.m a.segments.now a.coordinates.now c.requires.limited.0 l.i a.n (omega arith) c.requires.limited.1)

pub store_segment-stored-requires-clause-limited : goal.store_segment-stored-requires-clause-limited
store_segment-stored-requires-clause-limited c =
    let l = c.loop-i in
    let a = c.args in
    let t = c.trace-t in
    let ss = a.segments.now in
    let cs = a.coordinates.now in
    let limited = c.requires.limited.0 in
    let accepted = c.requires.limited.1 in (
      limited,
      (
        walk_placed a.m ss cs a.n l.i limited accepted l.walk l.invariant.0 (omega arith),
        subst (λ (v : Curve). CurvePlaced a.m v) (sym (traced_curve a.m ss cs l.i l.walk l.invariant.0 t.result t.ensures))
            (curve_placed a.m ss cs limited l.i a.n (omega arith) accepted),
      ),
    )

pub add_edges-requires-clause-sums : goal.add_edges-requires-clause-sums
add_edges-requires-clause-sums c =
    let l = c.loop-i in
    let a = c.args in
    let p = c.requires in
    let ss = a.segments.now in
    let cs = a.coordinates.now in
    let t = c.trace-t in
    let held = segment_held a.m ss cs a.n l.i p.limited.0 p.limited.1 l.walk l.invariant.0 (omega arith) l.edges _ _
    (omega arith) (omega arith) t.result t.ensures
    (c.store_segment-stored.ensures.edges_after, c.store_segment-stored.ensures.value) in (
      wound_small a.x a.y a.sums.now (edges_to a.m ss cs l.i) l.sums 0 2048 l.invariant.1 p.x_bound.2
          (omega (arith, edges_count a.m ss cs l.i, p.n_bound.0)),
      held.few,
      held_edges _ _ _ held,
    )

pub loop-i-preserved : goal.loop-i-preserved
loop-i-preserved c =
    let added = c.add_edges in
    let l = c.loop-i in
    let a = c.args in
    let p = c.requires in
    let ss = a.segments.now in
    let cs = a.coordinates.now in
    let t = c.trace-t in
    let drawn = drawn_edges a.m l.walk.pen (drawn_by l.walk.pen (get_or ss l.i 0) t.result.curve) in
    let held = segment_held a.m ss cs a.n l.i p.limited.0 p.limited.1 l.walk l.invariant.0 (omega arith) l.edges _ _
    (omega arith) (omega arith) t.result t.ensures
    (c.store_segment-stored.ensures.edges_after, c.store_segment-stored.ensures.value) in (
      traced_walk a.m ss cs l.i l.walk l.invariant.0 t.result t.ensures,
      added.ensures
          ∙ ap₂ (λ (s : List ℤ) (es : List Edge). wound a.x a.y s es) l.invariant.1 held.edges
          ∙ wound_append a.x a.y a.sums.now (edges_to a.m ss cs l.i) drawn
          ∙ ap (wound a.x a.y a.sums.now) (edges_more a.m ss cs l.i l.walk l.invariant.0 t.result t.ensures),
    )

pub store_closing-closing-requires-clause-limited : goal.store_closing-closing-requires-clause-limited
store_closing-closing-requires-clause-limited c =
    let l = c.loop-i in
    let a = c.args in
    let p = c.requires in
    (p.limited.0, walk_placed a.m a.segments.now a.coordinates.now a.n l.i p.limited.0 p.limited.1 l.walk l.invariant.0 (omega arith))

pub add_edges-requires-2-clause-sums : goal.add_edges-requires-2-clause-sums
add_edges-requires-2-clause-sums c =
    let l = c.loop-i in
    let a = c.args in
    let p = c.requires in
    let ss = a.segments.now in
    let cs = a.coordinates.now in
    let held = closing_held a.m ss cs a.n l.i p.limited.0 p.limited.1 l.walk l.invariant.0 (omega arith) l.edges _ _
    (omega arith) (c.store_closing-closing.ensures.edges_after, c.store_closing-closing.ensures.value) in (
      wound_small a.x a.y a.sums.now (edges_to a.m ss cs l.i) l.sums 0 2048 l.invariant.1 p.x_bound.2
          (omega (arith, edges_count a.m ss cs l.i, p.n_bound.0)),
      held.few,
      held_edges _ _ _ held,
    )

pub returns : goal.returns
returns c =
    let added = c.add_edges-2 in
    let l = c.loop-i in
    let a = c.args in
    let p = c.requires in
    let ss = a.segments.now in
    let cs = a.coordinates.now in
    let last : l.i ≡ a.n = omega arith in
    let drawn = drawn_edges a.m l.walk.pen (line_to l.walk.pen.start) in
    let held = closing_held a.m ss cs a.n l.i p.limited.0 p.limited.1 l.walk l.invariant.0 (omega arith) l.edges _ _
    (omega arith) (c.store_closing-closing.ensures.edges_after, c.store_closing-closing.ensures.value) in
    added.ensures
    ∙ ap₂ (λ (s : List ℤ) (es : List Edge). wound a.x a.y s es) l.invariant.1 held.edges
    ∙ wound_append a.x a.y a.sums.now (edges_to a.m ss cs l.i) drawn
    ∙ ap (wound a.x a.y a.sums.now) (edges_all a.m ss cs l.i l.walk l.invariant.0 a.n last)
