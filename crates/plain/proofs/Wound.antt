-- The winding number, edge by edge.
use mathlib.Core.Path.{◌≡◌}
use mathlib.Core.List.{List}
use mathlib.Core.Bool.{Bool, true, false, cond}
use Prim.Native.Nat.{ℕ, ◌+◌, ◌≤◌}
use native.Mathlib.Numerals.{add-one}
use native.Mathlib.Omega.{arith}
use lib.IntN.{ℤ, pos, negsuc, nat_abs, ◌+ℤ◌}
use Rattle.lists.proofs.Laws.{tab_length}
use Rattle.path.specs.declared.Edge.{Edge}
use Rattle.path.specs.Stored.{edge_at, edges_of}
use Rattle.coverage.specs.Winding.{rises, spans, at_or_left, sign, weight, counts, winding}
use Rattle.coverage.proofs.Sums.{sum_more, sum_small}

pub counts_small : (X Y : ℤ) (e : Edge) → nat_abs (counts X Y e) ≤ 1
unfolding counts weight sign
counts_small X Y e = by (at_or_left e X Y) (spans e Y) (rises e)
  where
    by : (a b c : Bool) → nat_abs (cond a (cond b (cond c (pos 1) (negsuc 0)) (pos 0)) (pos 0)) ≤ 1
    by true true true = omega arith
    by true true false = omega arith
    by true false c = omega arith
    by false b c = omega arith

module _ (l : List ℤ) (X Y : ℤ) (i : ℕ) where
  pub winding_more : winding (edges_of l (i + 1)) X Y ≡ winding (edges_of l i) X Y +ℤ counts X Y (edge_at l i)
  unfolding winding
  winding_more = rw add-one (sum_more (counts X Y) (edges_of l i) (edge_at l i))

  pub winding_small : nat_abs (winding (edges_of l i) X Y) ≤ i
  unfolding winding
  winding_small = omega (arith, sum_small (counts X Y) (edges_of l i) (counts_small X Y), tab_length i (edge_at l))
