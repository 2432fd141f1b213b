-- `windings::add_edges` meets its contract.
use mathlib.Core.Path.{sym, ap, ap₂, subst, ◌∙◌}
use mathlib.Core.List.{List, [], ◌∷◌}
use native.Mathlib.Omega.{arith}
use lib.IntN.{ℤ}
use Rattle.lists.proofs.Laws.{tab_length, upto_more}
use Rattle.path.specs.declared.Edge.{Edge}
use Rattle.path.specs.Stored.{edge_at, edges_of, Small}
use Rattle.reason.specs.Summed.{wound}
use Rattle.reason.proofs.Summed.{wound_none, wound_append, wound_small}
use Rattle.reason.proofs.windings.add_edges.Goals as goal

pub loop-i-init : goal.loop-i-init
loop-i-init c =
    wound_none c.args.x c.args.y c.args.sums.now c.requires.sums.0.room

pub add_edge-requires-clause-sums : goal.add_edge-requires-clause-sums
add_edge-requires-clause-sums c =
    let l = c.loop-i in
    let a = c.args in
    let p = c.requires in
    let few = tab_length l.i (edge_at a.edges.now) in (
      wound_small a.x a.y a.sums.now (edges_of a.edges.now l.i) l.sums 2048 4096 l.invariant p.sums.0 (omega (arith, few, p.sums.1)),
      subst Small (sym c.load-e.ensures) (p.sums.2.small l.i (omega arith)),
    )

pub loop-i-preserved : goal.loop-i-preserved
loop-i-preserved c =
    let l = c.loop-i in
    let a = c.args in
    let es = a.edges.now in
    c.add_edge.ensures
    ∙ ap₂ (λ (q : List ℤ) (e : Edge). wound a.x a.y q (e ∷ [])) l.invariant c.load-e.ensures
    ∙ wound_append a.x a.y a.sums.now (edges_of es l.i) (edge_at es l.i ∷ [])
    ∙ ap (wound a.x a.y a.sums.now) (sym (upto_more l.i (λ k. edge_at es k ∷ [])))
