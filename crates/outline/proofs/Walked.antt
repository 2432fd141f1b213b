-- One segment more: what it draws, the walk after it and the edges so far.
use mathlib.Core.Path.{◌≡◌, refl, sym, ap, ap₂, ◌∙◌}
use mathlib.Core.List.{List, ◌++◌}
use Prim.Native.Nat.{ℕ, ◌+◌}
use native.Mathlib.Numerals.{add-one}
use lib.Dec.{leb}
use lib.ListN.{get_or}
use mathlib.Core.Bool.{true, false}
use Rattle.lists.proofs.Laws.{upto_more}
use Rattle.path.specs.declared.FixedMatrix.{FixedMatrix}
use Rattle.path.specs.declared.Point.{Point}
use Rattle.path.specs.declared.Pen.{Pen}
use Rattle.path.specs.declared.Curve.{Curve}
use Rattle.path.specs.declared.Walk.{Walk}
use Rattle.path.specs.declared.Traced.{Traced}
use Rattle.path.specs.Matrices.{transform}
use Rattle.path.specs.Segments.{line_to, number, number_move, drawn_by, walk_on, walk_to, curve_at}
use Rattle.path.specs.Curves.{edge_between, curve_edges, transform_curve, drawn_edges, edges_to, path_edges}
use Rattle.path.specs.Answers.{traced_by}
use Rattle.outline.proofs.Counts.{curve_line}

-- ---- what a segment draws
module _ (m : FixedMatrix) (pen : Pen) where
  pub closing_edge : (p q : Point) → p ≡ transform m pen.current → q ≡ transform m pen.start → edge_between p q ≡ drawn_edges m pen (line_to pen.start)
  closing_edge p q e f = ap₂ edge_between e f ∙ sym (curve_line (transform m pen.current) (transform_curve m (line_to pen.start)) refl)

  pub drawn_curve : (byte : ℕ) (c : Curve) (p : Point) (d : Curve) → leb (number byte) number_move ≡ false → p ≡ transform m pen.current
      → d ≡ transform_curve m c
      → curve_edges p d ≡ drawn_edges m pen (drawn_by pen byte c)
  drawn_curve byte c p d h e f = ap₂ curve_edges e f ∙ rw h

-- ---- the walk, and the edges so far
module _ (m : FixedMatrix) (ss cs : List ℕ) (i : ℕ) (w : Walk) (at : w ≡ walk_to ss cs i) where
  module _ (t : Traced) (e : t ≡ traced_by cs w (get_or ss i 0)) where
    pub traced_curve : t.curve ≡ curve_at cs (walk_to ss cs i) (get_or ss i 0)
    unfolding traced_by
    traced_curve = ap (λ (u : Traced). u.curve) e ∙ ap (λ (v : Walk). curve_at cs v (get_or ss i 0)) at

    pub traced_walk : t.walk ≡ walk_to ss cs (i + 1)
    unfolding traced_by
    traced_walk = ap (λ (u : Traced). u.walk) e ∙ ap (λ (v : Walk). walk_on cs v (get_or ss i 0)) at ∙ ap (walk_to ss cs) (sym (add-one i))

    pub edges_more : edges_to m ss cs i ++ drawn_edges m w.pen (drawn_by w.pen (get_or ss i 0) t.curve) ≡ edges_to m ss cs (i + 1)
    edges_more =
        ap₂ (λ (v : Walk) (c : Curve). edges_to m ss cs i ++ drawn_edges m v.pen (drawn_by v.pen (get_or ss i 0) c)) at traced_curve
        ∙ sym (upto_more i _)

  pub edges_all : (n : ℕ) → i ≡ n → edges_to m ss cs i ++ drawn_edges m w.pen (line_to w.pen.start) ≡ path_edges m ss cs n
  unfolding path_edges
  edges_all n e =
      ap (λ (v : Walk). edges_to m ss cs i ++ drawn_edges m v.pen (line_to v.pen.start)) at
      ∙ ap (λ (k : ℕ). edges_to m ss cs k ++ drawn_edges m (walk_to ss cs k).pen (line_to (walk_to ss cs k).pen.start)) e
