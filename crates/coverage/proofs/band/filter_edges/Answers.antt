-- `coverage::band::filter_edges` meets its contract. Assumes nothing.
use mathlib.Core.Path.{◌≡◌, refl, sym, ap, ap₂, ◌∙◌}
use mathlib.Core.List.{[], ◌∷◌}
use mathlib.Core.Bool.{cond}
use Prim.Native.Nat.{ℕ, ◌+◌, ◌<◌}
use native.Mathlib.Omega.{arith}
use lib.IntN.{ℤ}
use lib.ListN.{length, set, take, length-set}
use Rattle.lists.proofs.Laws.{upto_more}
use Rattle.path.specs.Stored.{edge_at}
use Rattle.coverage.specs.Band.{apart, listed}
use Rattle.coverage.proofs.Begin.{clean}
use Rattle.coverage.proofs.Listed.{list_turn, listed_band}
use borrow.Author.Rules.{rules}
use Rattle.coverage.proofs.band.filter_edges.Goals as goal

pub loop-i-init : goal.loop-i-init
loop-i-init c =
    (search rules, refl, refl)

pub overflow_cast-list : goal.overflow_cast-list
overflow_cast-list c =
    omega (arith, c.requires.outlined.few)

pub offset_bounds-list-k : goal.offset_bounds-list-k
offset_bounds-list-k c =
    omega (arith, c.loop-i.invariant.0, c.requires.outlined.few)

pub bounds-list-k : goal.bounds-list-k
bounds-list-k c =
    omega (arith, c.loop-i.invariant.0, c.loop-i.invariant.1, c.requires.from_lt_end.2)

pub bounds-scratch-at : goal.bounds-scratch-at
bounds-scratch-at c =
    omega (arith, c.requires.outlined.few, c.requires.outlined.room)

pub bounds-scratch-at-in-loop-i : goal.bounds-scratch-at-in-loop-i
bounds-scratch-at-in-loop-i c =
    omega (arith, c.requires.outlined.few, c.requires.outlined.room)

pub overflow_add-k : goal.overflow_add-k
overflow_add-k c =
    omega (arith, c.needed-k.ensures.1, c.loop-i.invariant.0)

pub loop-i-preserved : goal.loop-i-preserved
loop-i-preserved c =
    let a = c.args in
    let l = c.loop-i in
    let e = edge_at a.scratch.now l.i in
    let t = apart e.y0 e.y1 a.from a.end in
    let n = c.needed-k.ensures in
    let m = c.requires.outlined.small l.i (omega arith) in
    let counted : c.needed-k.result ≡ cond t 0 1 =
    n.0 ∙ ap₂ (λ (p q : ℤ). cond (apart p q a.from a.end) 0 1) (clean e.y0 m.y0) (clean e.y1 m.y1) in
    let here : l.k < length l.list = omega (arith, l.invariant.0, l.invariant.1, c.requires.from_lt_end.2) in (
      omega (arith, n.1, l.invariant.0),
      simp length-set (omega arith),
      ap (λ (m : ℕ). take (l.k + m) (set l.list l.k l.i)) counted
          ∙ list_turn l.list (listed a.scratch.now a.from a.end l.i) l.k l.i t here l.invariant.2
          ∙ sym (upto_more l.i (λ i. cond (apart (edge_at a.scratch.now i).y0 (edge_at a.scratch.now i).y1 a.from a.end) [] (i ∷ []))),
    )

pub returns : goal.returns
returns c =
    let a = c.args in
    let l = c.loop-i in
    let e : l.i ≡ a.n = omega arith in
    let o = l.invariant.2 ∙ ap (listed a.scratch.now a.from a.end) e in
    record { upper_bound = (omega (arith, l.invariant.0), o); band = listed_band a.scratch.now a.from a.end a.n (take l.k l.list) o }
