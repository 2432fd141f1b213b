-- A box that holds edges: grown by an edge it holds that too, with its control points it holds a curve, and its pixels hold the box of the edges.
use mathlib.Core.Path.{◌≡◌, refl, sym, subst}
use mathlib.Core.Bool.{Bool, true, false, cond, ◌&&◌}
use mathlib.Core.List.{List, [], ◌∷◌, ◌++◌, foldl}
use Prim.Native.Nat.{ℕ, zero, suc, min, ◌≤◌}
use native.Mathlib.Omega.{arith}
use lib.Dec.{T, lit<, eqb}
use lib.IntN.{ℤ, pos, negsuc, ◌+ℤ◌}
use lib.Signed.{le_z, ◌≤ℤ◌, ≤ℤ_refl, le_z_yes}
use borrow.Author.Tests.{lt-leb, eqb-true, eqb-false}
use Rattle.fixed.specs.Floor.{floor_div}
use Rattle.fixed.proofs.Poly.{var, num, ◌⊕◌, eq, le, from_le}
use Rattle.fixed.proofs.Round.{from_floor}
use Rattle.fixed.proofs.Tests.{is_true}
use Rattle.rect.specs.Rects.{Holds}
use Rattle.rect.specs.Rects as R
use Rattle.rect.proofs.Laws.{both, either, empty_out}
use Rattle.path.specs.declared.FixedMatrix.{FixedMatrix}
use Rattle.path.specs.declared.Point.{Point}
use Rattle.path.specs.declared.Curve.{Curve}
use Rattle.path.specs.declared.Edge.{Edge}
use Rattle.path.specs.Boxes.{outer, end_of, outer_of, within, box_of}
use Rattle.path.specs.Matrices.{transform}
use Rattle.path.specs.Curves.{cut_point, equal, edge, edge_between, curve_edges}
use Rattle.outline.specs.Corners.{grown_by, pixels_of}
use Rattle.outline.specs.Around.{Beyond, side_of, Wider, Around, axis_of, Over}
use Rattle.outline.proofs.Bezier.{curved, cut_side}
use Rattle.outline.proofs.Counts.{curve_line, curve_pieces}
use Rattle.outline.proofs.Every.{Every, none, more, every_map, every_append, every_upto}
use Rattle.outline.proofs.Outermost.{beyond_refl, beyond_trans, outer_first, outer_second, outer_within, within_some}

-- ---- boxes
pub wider_refl : (c : Edge) → Wider c c
wider_refl c = record { side = λ greater axis. beyond_refl greater (side_of greater axis c) }

wider_trans : (a b c : Edge) → Wider a b → Wider b c → Wider a c
wider_trans a b c h k = record { side = λ greater axis. beyond_trans greater _ (side_of greater axis b) _ (h.side greater axis) (k.side greater axis) }

grown_side : (greater axis : Bool) (c e : Edge) → side_of greater axis (grown_by c e) ≡ outer greater (side_of greater axis c) (end_of greater axis e)
grown_side true true c e = refl
grown_side true false c e = refl
grown_side false true c e = refl
grown_side false false c e = refl

pub grown_wider : (c e : Edge) → Wider (grown_by c e) c
grown_wider c e = record {
  side = λ greater axis. rw (grown_side greater axis c e) (outer_first greater (side_of greater axis c) (end_of greater axis e));
}

-- ---- points
edge_end : (greater axis : Bool) (p q : Point) → end_of greater axis (edge p q) ≡ outer greater (axis_of axis p) (axis_of axis q)
edge_end greater true p q = refl
edge_end greater false p q = refl

pub over_wider : (a b : Edge) (p : Point) → Wider a b → Over b p → Over a p
over_wider a b p h k = record { side = λ greater axis. beyond_trans greater _ (side_of greater axis b) _ (h.side greater axis) (k.side greater axis) }

module _ (c : Edge) (p q : Point) where
  grown_end : (greater axis : Bool) → Beyond greater (side_of greater axis (grown_by c (edge p q))) (outer greater (axis_of axis p) (axis_of axis q))
  grown_end greater axis =
      rw (grown_side greater axis c (edge p q), sym (edge_end greater axis p q)) (outer_second greater (side_of greater axis c) (end_of greater axis
      (edge p q)))

  pub grown_from : Over (grown_by c (edge p q)) p
  grown_from = record {
    side = λ greater axis. beyond_trans greater _ _ _ (grown_end greater axis) (outer_first greater (axis_of axis p) (axis_of axis q));
  }

  grown_to : Over (grown_by c (edge p q)) q
  grown_to = record {
    side = λ greater axis. beyond_trans greater _ _ _ (grown_end greater axis) (outer_second greater (axis_of axis p) (axis_of axis q));
  }

  edge_around : Over c p → Over c q → Around c (edge_between p q)
  edge_around h k = record { side = λ greater axis. by (equal p.x q.x && equal p.y q.y) greater axis }
    where
      by : (t greater axis : Bool) → Every (λ e. Beyond greater (side_of greater axis c) (end_of greater axis e)) (cond t [] (edge p q ∷ []))
      by true greater axis = none
      by false greater axis =
          more {x = edge p q}
          (rw (edge_end greater axis p q) (outer_within greater (side_of greater axis c) _ _ (h.side greater axis) (k.side greater axis))) none

-- ---- edges
pub around_none : (c : Edge) → Around c []
around_none c = record { side = λ greater axis. none }

pub around_more : (c b : Edge) (es fs : List Edge) → Wider c b → Around b es → Around c fs → Around c (es ++ fs)
around_more c b es fs w h k = record {
  side = λ greater axis.
      every_append (every_map (λ e l. beyond_trans greater _ (side_of greater axis b) _ (w.side greater axis) l) (h.side greater axis)) (k.side greater axis);
}

-- ---- what a segment draws
equal_same : (a b : ℤ) → equal a b ≡ true → a ≡ b
equal_same a b h =
    let t = both (le_z a b) (le_z b a) h in
    eq (var a) (var b)
    (omega (arith, from_le (var a) (var b) (le_z_yes (subst T (sym t.0) tt)), from_le (var b) (var a) (le_z_yes (subst T (sym t.1) tt))))

equal_self : (a : ℤ) → equal a a ≡ true
equal_self a = rw (is_true (le_z a a) (≤ℤ_refl a).le)

-- nothing, where a subpath is at its start
pub start_around : (c : Edge) (m : FixedMatrix) (p q : Point) → (equal p.x q.x && equal p.y q.y) ≡ true
    → Around c (edge_between (transform m p) (transform m q))
start_around c m p q h =
    let t = both (equal p.x q.x) (equal p.y q.y) h in
    let x = equal_same p.x q.x t.0 in
    let y = equal_same p.y q.y t.1 in
    let e : q ≡ p = sym (λ i. record { x = x i; y = y i }) in
    let r = transform m p in
    subst (λ (v : Point). Around c (edge_between r (transform m v))) (sym e) (rw (equal_self r.x, equal_self r.y) (around_none c))

pub line_around : (c r : Edge) (p q : Point) → r ≡ grown_by c (edge p q) → Wider r c × Around r (edge_between p q)
line_around c r p q e =
    rw e (grown_wider c (edge p q), edge_around (grown_by c (edge p q)) p q (grown_from c p q) (grown_to c p q))

cut_over : (c : Edge) (o : Point) (v : Curve) (k : ℕ) → 2 ≤ v.degree → v.degree ≤ 3 → k ≤ 16
    → Over c o → Over c v.p1 → Over c v.p2 → Over c v.p3 → Over c (cut_point o v k)
cut_over c o v k l m n h0 h1 h2 h3 = record { side = by }
  where
    by : (greater axis : Bool) → Beyond greater (side_of greater axis c) (axis_of axis (cut_point o v k))
    by greater true =
        cut_side (side_of greater true c) o.y v.p1.y v.p2.y v.p3.y greater (curved v.degree l m) k n
        (h0.side greater true) (h1.side greater true) (h2.side greater true) (h3.side greater true)
    by greater false =
        cut_side (side_of greater false c) o.x v.p1.x v.p2.x v.p3.x greater (curved v.degree l m) k n
        (h0.side greater false) (h1.side greater false) (h2.side greater false) (h3.side greater false)

-- the edges of a curve whose points are in the box
pub points_around : (c : Edge) (o : Point) (v : Curve) → 1 ≤ v.degree → v.degree ≤ 3
    → Over c o → Over c v.p1 → Over c v.p2 → Over c v.p3 → Around c (curve_edges o v)
points_around c o v some most h0 h1 h2 h3 = either (eqb v.degree 1) line pieced
  where
    line : eqb v.degree 1 ≡ true → Around c (curve_edges o v)
    line e = rw (curve_line o v (eqb-true _ _ e)) (edge_around c o v.p3 h0 h3)

    pieced : eqb v.degree 1 ≡ false → Around c (curve_edges o v)
    pieced e =
        let n = eqb-false v.degree 1 e in
        let l : 2 ≤ v.degree = omega (arith, some, n) in
        let at : (k : ℕ) → k ≤ 16 → Over c (cut_point o v k) = λ k m. cut_over c o v k l most m h0 h1 h2 h3 in
        rw (curve_pieces o v n)
        (record {
          side = λ greater axis.
              every_upto 16 _
              (λ k m. (edge_around c (cut_point o v k) (cut_point o v (suc k)) (at k (omega arith)) (at (suc k) (omega arith))).side greater axis);
        })

-- a box grown by two edges holds their four ends
pub four_over : (c d r : Edge) (p q s t : Point) → d ≡ grown_by c (edge p q) → r ≡ grown_by d (edge s t) → (Over r p × Over r q) × (Over r s × Over r t)
four_over c d r p q s t e f =
    let first = grown_by c (edge p q) in
    let both = grown_by first (edge s t) in
    let w = grown_wider first (edge s t) in
    rw (f, e) (
      (over_wider both first p w (grown_from c p q), over_wider both first q w (grown_to c p q)),
      (grown_from first s t, grown_to first s t),
    )

pub curve_around : (c d r : Edge) (o : Point) (v : Curve) → 1 ≤ v.degree → v.degree ≤ 3
    → d ≡ grown_by c (edge o v.p1) → r ≡ grown_by d (edge v.p2 v.p3) → Wider r c × Around r (curve_edges o v)
curve_around c d r o v some most e f =
    let h = four_over c d r o v.p1 v.p2 v.p3 e f in (
      wider_trans r d c (rw f (grown_wider d (edge v.p2 v.p3))) (rw e (grown_wider c (edge o v.p1))),
      points_around r o v some most h.0.0 h.0.1 h.1.0 h.1.1,
    )

-- ---- its pixels hold the box
fold_within : (greater axis : Bool) (m n : ℤ) (es : List Edge) → Beyond greater m n → Every (λ e. Beyond greater m (end_of greater axis e)) es
    → Beyond greater m (foldl (λ a d. outer greater a (end_of greater axis d)) n es)
fold_within greater axis m n [] h none = h
fold_within greater axis m n (e ∷ es) h (more p k) =
    fold_within greater axis m (outer greater n (end_of greater axis e)) es (outer_within greater m n (end_of greater axis e) h p) k

outer_inside : (greater axis : Bool) (m : ℤ) (e : Edge) (es : List Edge) → Every (λ d. Beyond greater m (end_of greater axis d)) (e ∷ es)
    → Beyond greater m (outer_of greater axis (e ∷ es))
unfolding outer_of
outer_inside greater axis m e es (more p k) = fold_within greater axis m (end_of greater axis e) es p k

within_above : (n a : ℕ) → min n (suc a) ≡ within n (pos (suc a))
within_above n a = within_some n (pos (suc a)) (min n (suc a)) (lt-leb (suc a) 0 (omega arith)) refl

within_order : (n : ℕ) (a b : ℤ) → a ≤ℤ b → within n a ≤ within n b
within_order n (pos zero) b h = omega arith
within_order n (pos (suc a)) (pos zero) h = absurd (omega (arith, from_le (num (suc a)) (num 0) h))
within_order n (pos (suc a)) (pos (suc b)) h =
    omega (arith, within_above n a, within_above n b, from_le (num (suc a)) (num (suc b)) h)
within_order n (pos (suc a)) (negsuc b) h = absurd h.le
within_order n (negsuc a) b h = omega arith

pub floor_order : (a b : ℤ) → a ≤ℤ b → floor_div a 256 ≤ℤ floor_div b 256
floor_order a b h =
    let f = from_floor (var a) 256 (lit< tt) in
    let g = from_floor (var b) 256 (lit< tt) in
    le (var (floor_div a 256)) (var (floor_div b 256)) (omega (arith, from_le (var a) (var b) h))

next_order : (a b : ℤ) → a ≤ℤ b → (a +ℤ pos 1) ≤ℤ (b +ℤ pos 1)
next_order a b h = le (var a ⊕ num 1) (var b ⊕ num 1) (omega (arith, from_le (var a) (var b) h))

pub around_holds : (w h : ℕ) (c : Edge) (es : List Edge) → Around c es → Holds (pixels_of w h c) (box_of w h es)
unfolding box_of
around_holds w h c [] a x y i = absurd (empty_out R.none x y refl i)
around_holds w h c (e ∷ es) a x y i =
    let o : (greater axis : Bool) → Beyond greater (side_of greater axis c) (outer_of greater axis (e ∷ es)) =
    λ greater axis. outer_inside greater axis (side_of greater axis c) e es (a.side greater axis) in
    let x0 = within_order w _ _ (floor_order _ _ (o false false)) in
    let y0 = within_order h _ _ (floor_order _ _ (o false true)) in
    let x1 = within_order w _ _ (next_order _ _ (floor_order _ _ (o true false))) in
    let y1 = within_order h _ _ (next_order _ _ (floor_order _ _ (o true true))) in
    record { left = omega (arith, x0, i.left); right = omega (arith, x1, i.right); below = omega (arith, y0, i.below); above = omega (arith, y1, i.above) }
