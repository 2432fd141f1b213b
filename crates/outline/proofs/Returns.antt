-- A path's edges come back to where they began, whatever the path: every subpath is closed.
use mathlib.Core.Path.{◌≡◌, refl, sym, ap, ap₂, subst, ◌∙◌}
use mathlib.Core.List.{List, [], ◌∷◌, ◌++◌}
use mathlib.Core.Bool.{Bool, true, false, cond, ◌&&◌}
use Prim.Native.Nat.{ℕ, zero, suc, ◌≤◌, ◌<◌}
use native.Mathlib.Omega.{arith}
use lib.Dec.{T, eqb, leb}
use lib.ListN.{get_or}
use lib.IntN.{ℤ, pos, ◌+ℤ◌, ◌-ℤ◌}
use lib.Signed.{le_z, ◌≤ℤ◌}
use borrow.Author.Tests.{eqb-true, eqb-false, leb-true, leb-false, eq-eqb}
use Rattle.lists.specs.Lists.{upto}
use Rattle.fixed.proofs.Poly.{var, num, ◌⊕◌, ◌⊖◌, eq, from_le}
use Rattle.rect.proofs.Laws.{both}
use Rattle.path.specs.declared.FixedMatrix.{FixedMatrix}
use Rattle.path.specs.declared.Point.{Point}
use Rattle.path.specs.declared.Pen.{Pen}
use Rattle.path.specs.declared.Curve.{Curve}
use Rattle.path.specs.declared.Edge.{Edge}
use Rattle.path.specs.declared.Walk.{Walk}
use Rattle.path.specs.Matrices.{transform}
use Rattle.path.specs.Segments.{number, line_to, quad_to, cubic_to, points_of, drawn_by, pen_after, walk_to, walk_on, curve_at}
use Rattle.path.specs.Curves.{cut_point, equal, edge, edge_between, curve_edges, transform_curve, drawn_edges, segment_edges, edges_to, path_edges}
use Rattle.path.specs.Closed.{fall, Closed}
use Rattle.outline.proofs.Bezier.{Curved, quad, cubic, cut_first, cut_last}

-- ---- a segment's curve is a line, a quad or a cubic
pub data Shaped : Curve → Type 0 where
  straight : (e : Point) → Shaped (line_to e)
  bent : (c e : Point) → Shaped (quad_to c e)
  twisted : (c d e : Point) → Shaped (cubic_to c d e)

shape : (a b c d e f g : Bool) (p q r s : Point) (h i j k l : Point) (u v w x y : Point)
    → Shaped (cond a (line_to p) (cond b (line_to q)
    (cond c (line_to r) (cond d (quad_to h i) (cond e (cubic_to j k l) (cond f (quad_to u v) (cond g (cubic_to w x y) (line_to s))))))))
shape true b c d e f g p q r s h i j k l u v w x y = straight p
shape false true c d e f g p q r s h i j k l u v w x y = straight q
shape false false true d e f g p q r s h i j k l u v w x y = straight r
shape false false false true e f g p q r s h i j k l u v w x y = bent h i
shape false false false false true f g p q r s h i j k l u v w x y = twisted j k l
shape false false false false false true g p q r s h i j k l u v w x y = bent u v
shape false false false false false false true p q r s h i j k l u v w x y = twisted w x y
shape false false false false false false false p q r s h i j k l u v w x y = straight s

pub points_shaped : (pen : Pen) (byte : ℕ) (c : ℕ → ℤ) → Shaped (points_of pen byte c)
unfolding points_of
points_shaped pen byte c =
    let n = number byte in
    shape (eqb n 0) (eqb n 6) (eqb n 8) (eqb n 10) (eqb n 12) (eqb n 14) (eqb n 16) _ _ _ _ _ _ _ _ _ _ _ _ _ _

drawn_shaped : (pen : Pen) (byte : ℕ) (c : Curve) → Shaped c → Shaped (drawn_by pen byte c)
drawn_shaped pen byte c h = by (leb (number byte) 2)
  where
    by : (t : Bool) → Shaped (cond t (line_to pen.start) c)
    by true = straight pen.start
    by false = h

-- a close draws back to the start
close_end : (pen : Pen) (byte : ℕ) (c : ℕ → ℤ) → number byte ≡ 0 → (points_of pen byte c).p3 ≡ pen.start
unfolding points_of
close_end pen byte c e = rw (eq-eqb (number byte) 0 e)

-- ---- how much g falls along edges
module _ (g : ℤ → ℤ → ℤ) where
  abbrev on : Point → ℤ
  on p = g p.x p.y

  chain : (a b c : ℤ) → (a -ℤ b) +ℤ (b -ℤ c) ≡ a -ℤ c
  chain a b c = eq ((var a ⊖ var b) ⊕ (var b ⊖ var c)) (var a ⊖ var c) (omega arith)

  level : (a : ℤ) → pos 0 ≡ a -ℤ a
  level a = eq (num 0) (var a ⊖ var a) (omega arith)

  fall_append : (es fs : List Edge) → fall g (es ++ fs) ≡ fall g es +ℤ fall g fs
  fall_append [] fs = eq (var (fall g fs)) (num 0 ⊕ var (fall g fs)) (omega arith)
  fall_append (e ∷ es) fs =
      let d = g e.x0 e.y0 -ℤ g e.x1 e.y1 in
      ap (λ (z : ℤ). d +ℤ z) (fall_append es fs)
      ∙ eq (var d ⊕ (var (fall g es) ⊕ var (fall g fs))) (var d ⊕ var (fall g es) ⊕ var (fall g fs)) (omega arith)

  same_number : (a b : ℤ) → equal a b ≡ true → a ≡ b
  same_number a b h =
      let p = both (le_z a b) (le_z b a) h in
      let k : a ≤ℤ b = record { le = subst T (sym p.0) tt } in
      let l : b ≤ℤ a = record { le = subst T (sym p.1) tt } in
      eq (var a) (var b) (omega (arith, from_le (var a) (var b) k, from_le (var b) (var a) l))

  fall_edge : (a b : Point) → fall g (edge_between a b) ≡ on a -ℤ on b
  fall_edge a b = by (equal a.x b.x && equal a.y b.y) refl
    where
      by : (t : Bool) → (equal a.x b.x && equal a.y b.y) ≡ t → fall g (cond t [] (edge a b ∷ [])) ≡ on a -ℤ on b
      by true e =
          let p = both (equal a.x b.x) (equal a.y b.y) e in
          level (on b) ∙ ap (λ (z : ℤ). z -ℤ on b) (sym (ap₂ g (same_number a.x b.x p.0) (same_number a.y b.y p.1)))
      by false e = eq (var (on a) ⊖ var (on b) ⊕ num 0) (var (on a) ⊖ var (on b)) (omega arith)

  -- edges from point to point
  fall_along : (n : ℕ) (v : ℕ → Point) → fall g (upto n (λ k. edge_between (v k) (v (suc k)))) ≡ on (v 0) -ℤ on (v n)
  fall_along zero v = level (on (v 0))
  fall_along (suc n) v =
      fall_append (upto n (λ k. edge_between (v k) (v (suc k)))) (edge_between (v n) (v (suc n)))
      ∙ ap₂ ◌+ℤ◌ (fall_along n v) (fall_edge (v n) (v (suc n)))
      ∙ chain (on (v 0)) (on (v n)) (on (v (suc n)))

  -- a curve goes from its first point to its end
  fall_cut : (o : Point) (c : Curve) → Curved c.degree → (c.degree ≡ 2 → c.p2 ≡ c.p3)
      → fall g (upto 16 (λ k. edge_between (cut_point o c k) (cut_point o c (suc k)))) ≡ on o -ℤ on c.p3
  fall_cut o c k h =
      fall_along 16 (cut_point o c)
      ∙ ap₂ ◌-ℤ◌ (ap₂ g (cut_first k _ _ _ _) (cut_first k _ _ _ _))
      (ap₂ g (cut_last k _ _ _ _ (λ e. ap (λ (p : Point). p.x) (h e))) (cut_last k _ _ _ _ (λ e. ap (λ (p : Point). p.y) (h e))))

  fall_curve : (m : FixedMatrix) (o : Point) (c : Curve) → Shaped c → fall g (curve_edges o (transform_curve m c)) ≡ on o -ℤ on (transform m c.p3)
  unfolding curve_edges
  fall_curve m o c (straight e) = fall_edge o (transform m e)
  fall_curve m o c (bent b e) = fall_cut o (transform_curve m (quad_to b e)) quad (λ _. refl)
  fall_curve m o c (twisted b d e) = fall_cut o (transform_curve m (cubic_to b d e)) cubic (λ e. absurd (omega (arith, e)))

  -- ---- the walk: the edges so far go from the current subpath's start to the current point
  module _ (m : FixedMatrix) where
    abbrev owed : Pen → ℤ
    owed pen = on (transform m pen.start) -ℤ on (transform m pen.current)

    -- what is owed after a segment that draws to e
    after_segment : (pen : Pen) (e : Point)
        → owed pen +ℤ (on (transform m pen.current) -ℤ on (transform m e)) ≡ on (transform m pen.start) -ℤ on (transform m e)
    after_segment pen e = chain (on (transform m pen.start)) (on (transform m pen.current)) (on (transform m e))

    fall_segment : (coordinates : List ℕ) (w : Walk) (byte : ℕ)
        → owed w.pen +ℤ fall g (segment_edges m coordinates w byte) ≡ owed (walk_on coordinates w byte).pen
    unfolding pen_after
    fall_segment coordinates w byte =
        let pen = w.pen in
        let c = curve_at coordinates w byte in
        let s = points_shaped pen byte _ in
        ap (λ (z : ℤ). owed pen +ℤ z) (fall_curve m (transform m pen.current) (drawn_by pen byte c) (drawn_shaped pen byte c s))
        ∙ after_segment pen (drawn_by pen byte c).p3
        ∙ by (leb (number byte) 2) (eqb (number byte) 2) refl refl
      where
        p : Pen
        p = w.pen

        e : Point
        e = (curve_at coordinates w byte).p3

        closing : number byte ≤ 2 → (number byte ≡ 2 → ⊥) → number byte ≡ 0
        closing l n = omega arith

        over : 2 < number byte → number byte ≡ 2 → ⊥
        over l n = omega arith

        by : (t u : Bool) → leb (number byte) 2 ≡ t → eqb (number byte) 2 ≡ u
            → on (transform m p.start) -ℤ on (transform m (cond t (line_to p.start) (curve_at coordinates w byte)).p3)
            ≡ on (transform m (cond u e p.start)) -ℤ on (transform m e)
        by false false f h = refl
        by true true f h = sym (level (on (transform m p.start))) ∙ level (on (transform m e))
        by true false f h =
            ap (λ (q : Point). on (transform m p.start) -ℤ on (transform m q))
            (sym (close_end w.pen byte _ (closing (leb-true (number byte) 2 f) (eqb-false (number byte) 2 h))))
        by false true f h = absurd (over (leb-false (number byte) 2 f) (eqb-true (number byte) 2 h))

    -- THE LAW: the edges of any path are closed
    fall_walk : (segments coordinates : List ℕ) (n : ℕ) → fall g (edges_to m segments coordinates n) ≡ owed (walk_to segments coordinates n).pen
    fall_walk segments coordinates zero = level (on (transform m (walk_to segments coordinates zero).pen.start))
    fall_walk segments coordinates (suc n) =
        let w = walk_to segments coordinates n in
        fall_append (edges_to m segments coordinates n) (segment_edges m coordinates w (get_or segments n 0))
        ∙ ap (λ (z : ℤ). z +ℤ fall g (segment_edges m coordinates w (get_or segments n 0))) (fall_walk segments coordinates n)
        ∙ fall_segment coordinates w (get_or segments n 0)

    fall_path : (segments coordinates : List ℕ) (n : ℕ) → fall g (path_edges m segments coordinates n) ≡ pos 0
    unfolding path_edges
    fall_path segments coordinates n =
        let pen = (walk_to segments coordinates n).pen in
        fall_append (edges_to m segments coordinates n) (drawn_edges m pen (line_to pen.start))
        ∙ ap₂ ◌+ℤ◌ (fall_walk segments coordinates n) (fall_curve m (transform m pen.current) (line_to pen.start) (straight pen.start))
        ∙ after_segment pen pen.start
        ∙ sym (level (on (transform m pen.start)))

pub path_closed : (m : FixedMatrix) (segments coordinates : List ℕ) (n : ℕ) → Closed (path_edges m segments coordinates n)
path_closed m segments coordinates n = record { none = λ g. fall_path g m segments coordinates n }
