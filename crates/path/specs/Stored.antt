-- Edges in a run of numbers, four for each: x0, y0, x1, y1. A reviewer of the paper need not read it.
use Rattle.std.specs.Prelude.{ℕ, suc, ◌+◌, ◌*◌, ◌≤◌, List, [], ◌∷◌, get_or, set, ℤ, pos, nat_abs}
use Rattle.lists.specs.Lists.{tab}
use Rattle.path.specs.declared.Edge.{Edge}

-- the edge at place i, and the first n edges
abbrev pub edge_at : List ℤ → ℕ → Edge
edge_at l i = record { x0 = get_or l (i * 4) (pos 0); y0 = get_or l (i * 4 + 1) (pos 0); x1 = get_or l (i * 4 + 2) (pos 0); y1 = get_or l (i * 4 + 3) (pos 0) }

abbrev pub edges_of : List ℤ → ℕ → List Edge
edges_of l n = tab n (edge_at l)

-- l with an edge at place i, and with a list of edges from place i on
abbrev pub put_edge : List ℤ → ℕ → Edge → List ℤ
put_edge l i e = set (set (set (set l (i * 4) e.x0) (i * 4 + 1) e.y0) (i * 4 + 2) e.x1) (i * 4 + 3) e.y1

abbrev pub put_edges : List ℤ → ℕ → List Edge → List ℤ
put_edges l i [] = l
put_edges l i (e ∷ es) = put_edges (put_edge l i e) (suc i) es

-- the size that the rules of a path keep: 8,388,608
pub record Small (e : Edge) : Type 0 where
  pub x0 : nat_abs e.x0 ≤ 8388608
  pub y0 : nat_abs e.y0 ≤ 8388608
  pub x1 : nat_abs e.x1 ≤ 8388608
  pub y1 : nat_abs e.y1 ≤ 8388608
