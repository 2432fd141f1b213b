-- `outline::store::store_curve` meets its contract.
use mathlib.Core.Path.{◌≡◌, sym, ap, ◌∙◌}
use native.Mathlib.Omega.{arith}
use Rattle.path.specs.Curves.{edge_between}
use Rattle.outline.proofs.Counts.{pieces, pieces_count, pieces_more, curve_line, curve_pieces}
use Rattle.outline.proofs.Stores.{puts_more, puts_same}
use Rattle.outline.proofs.store.store_curve.Goals as goal

pub returns-then-c-eq1 : goal.returns-then-c-eq1
returns-then-c-eq1 c =
    let if1 = c.if-c-eq1 in
    let a = c.args in
    let e = c.store_edge.ensures in
    let all = puts_same a.edges.now a.n (sym (curve_line a.o a.c if1.true)) (e.edges_after, e.value) in
    record { edges_after = all.0; value = all.1 }

pub store_edge-count-requires : goal.store_edge-count-requires
store_edge-count-requires c =
    let l = c.loop-k in
    let a = c.args in
    omega (arith, pieces_count a.o a.c l.k)

pub loop-k-preserved : goal.loop-k-preserved
loop-k-preserved c =
    let a = c.args in
    let l = c.loop-k in
    let e = c.store_edge-count in
    let to = c.cut_point-to in
    let more = pieces_more a.o a.c l.k l.from to.result l.invariant.1 to.ensures.0 in (
      e.auto.edges ∙ l.invariant.0,
      to.ensures.0,
      puts_more (pieces a.o a.c l.k) (edge_between l.from to.result) a.edges.now
          a.n more l.invariant.2 (e.ensures.edges_after, e.ensures.value),
    )

pub returns : goal.returns
returns c =
    let if1 = c.if-c-eq1 in
    let a = c.args in
    let l = c.loop-k in
    let last : l.k ≡ 16 = omega arith in
    let all = puts_same a.edges.now a.n (ap (pieces a.o a.c) last ∙ sym (curve_pieces a.o a.c if1.false)) l.invariant.2 in
    record { edges_after = all.0; value = all.1 }
