-- How many edges a path has: never more than 16 for a segment, and one at the end.
use mathlib.Core.Path.{◌≡◌, sym, ap, ap₂, ◌∙◌}
use mathlib.Core.List.{List, [], ◌∷◌, ◌++◌}
use mathlib.Core.Bool.{Bool, true, false, cond, ◌&&◌}
use Prim.Native.Nat.{ℕ, zero, suc, ◌+◌, ◌*◌, ◌≤◌}
use native.Mathlib.Numerals.{add-one}
use native.Mathlib.Omega.{arith}
use lib.Dec.{eqb}
use lib.ListN.{get_or, length, length-append}
use borrow.Author.Tests.{eqb-true, eqb-false, eq-eqb, ne_eqb}
use Rattle.lists.specs.Lists.{upto}
use Rattle.lists.proofs.Laws.{upto_more}
use Rattle.rect.proofs.Laws.{either}
use Rattle.path.specs.declared.FixedMatrix.{FixedMatrix}
use Rattle.path.specs.declared.Point.{Point}
use Rattle.path.specs.declared.Curve.{Curve}
use Rattle.path.specs.declared.Edge.{Edge}
use Rattle.path.specs.Segments.{walk_to, line_to, curve_at, drawn_by}
use Rattle.path.specs.Matrices.{transform}
use Rattle.path.specs.Curves.{cut_point, equal, edge, edge_between, curve_edges, transform_curve, drawn_edges, edges_to, path_edges}

edge_count : (a b : Point) → length (edge_between a b) ≤ 1
edge_count a b = by (equal a.x b.x && equal a.y b.y)
  where
    by : (t : Bool) → length (cond t [] (edge a b ∷ [])) ≤ 1
    by true = omega arith
    by false = omega arith

upto_count : (b n : ℕ) (f : ℕ → List Edge) → ((k : ℕ) → length (f k) ≤ b) → length (upto n f) ≤ n * b
upto_count b zero f h = omega arith
upto_count b (suc n) f h = rw (length-append (upto n f) (f n)) (omega (arith, upto_count b n f h, h n))

-- ---- a curve's pieces, up to the point at k / 16
abbrev pub pieces : Point → Curve → ℕ → List Edge
pieces o c k = upto k (λ j. edge_between (cut_point o c j) (cut_point o c (suc j)))

pub pieces_count : (o : Point) (c : Curve) (k : ℕ) → length (pieces o c k) ≤ k
pieces_count o c k =
    omega (arith, upto_count 1 k (λ j. edge_between (cut_point o c j) (cut_point o c (suc j))) (λ j. edge_count (cut_point o c j) (cut_point o c (suc j))))

pub pieces_more : (o : Point) (c : Curve) (k : ℕ) (p q : Point) → p ≡ cut_point o c k → q ≡ cut_point o c (k + 1)
    → pieces o c k ++ edge_between p q ≡ pieces o c (k + 1)
pieces_more o c k p q e f = ap₂ (λ (a b : Point). pieces o c k ++ edge_between a b) e (f ∙ ap (cut_point o c) (add-one k)) ∙ sym (upto_more k _)

pub curve_line : (o : Point) (c : Curve) → c.degree ≡ 1 → curve_edges o c ≡ edge_between o c.p3
unfolding curve_edges
curve_line o c e = rw (eq-eqb c.degree 1 e)

pub curve_pieces : (o : Point) (c : Curve) → (c.degree ≡ 1 → ⊥) → curve_edges o c ≡ pieces o c 16
unfolding curve_edges
curve_pieces o c e = rw (ne_eqb c.degree 1 e)

pub curve_count : (o : Point) (c : Curve) → length (curve_edges o c) ≤ 16
curve_count o c =
    either (eqb c.degree 1)
    (λ e. rw (curve_line o c (eqb-true _ _ e)) (omega (arith, edge_count o c.p3)))
    (λ e. rw (curve_pieces o c (eqb-false _ _ e)) (pieces_count o c 16))

pub edges_count : (m : FixedMatrix) (segments coordinates : List ℕ) (n : ℕ) → length (edges_to m segments coordinates n) ≤ n * 16
edges_count m segments coordinates n =
    upto_count 16 n _
    (λ i. let w = walk_to segments coordinates i in
    curve_count (transform m w.pen.current) (transform_curve m (drawn_by w.pen (get_or segments i 0) (curve_at coordinates w (get_or segments i 0)))))

pub path_count : (m : FixedMatrix) (segments coordinates : List ℕ) (n : ℕ) → length (path_edges m segments coordinates n) ≤ n * 16 + 1
unfolding path_edges curve_edges
path_count m segments coordinates n =
    let pen = (walk_to segments coordinates n).pen in
    rw (length-append (edges_to m segments coordinates n) (drawn_edges m pen (line_to pen.start)))
    (omega (arith, edges_count m segments coordinates n, edge_count (transform m pen.current) (transform m pen.start)))
