-- `outline::flatten::store_closing` meets its contract.
use Rattle.outline.proofs.Stores.{puts_same}
use Rattle.outline.proofs.Walked.{closing_edge}
use Rattle.outline.proofs.flatten.store_closing.Goals as goal

pub returns : goal.returns
returns c =
    let a = c.args in
    let p = c.apply-from in
    let q = c.apply-to in
    let e = c.store_edge.ensures in
    let all = puts_same a.edges.now a.n (closing_edge a.m a.pen p.result q.result p.ensures q.ensures) (e.edges_after, e.value) in
    record { edges_after = all.0; value = all.1 }
