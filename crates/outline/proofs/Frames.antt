-- The box of a path's coordinates, taken as x and y in turn: its corners go around what the matrix takes from it, and around the edges of a path of
-- absolute points.
use mathlib.Core.Path.{◌≡◌, refl, sym, ap, subst, ◌∙◌}
use mathlib.Core.Bool.{Bool, true, false, not, cond, true≢false}
use mathlib.Core.List.{List, ◌++◌}
use mathlib.Core.Logic.{⊎_elim}
use Prim.Native.Nat.{ℕ, zero, suc, ◌+◌, ◌*◌, ◌/◌, ◌%◌, ◌≤◌, ◌<◌}
use native.Mathlib.Nat.{eq-or-lt_of_le, mul-le-mul_left, not-suc-le-zero}
use native.Mathlib.Omega.{arith}
use lib.Dec.{eqb, leb}
use lib.ListN.{length, get_or}
use lib.IntN.{ℤ, pos, negsuc, nat_abs, ◌+ℤ◌, ◌*ℤ◌, +ℤ_idl}
use lib.Signed.{le_z, ◌≤ℤ◌}
use borrow.Author.Tests.{eqb-false}
use Rattle.std.specs.Prelude.{Ok}
use Rattle.rect.proofs.Laws.{both, either}
use Rattle.fixed.specs.Little.{i16_at}
use Rattle.fixed.proofs.Tests.{is_true}
use Rattle.fixed.proofs.Poly.{var, num, ◌⊕◌, ◌⊗◌, le, from_le}
use Rattle.path.specs.declared.FixedMatrix.{FixedMatrix}
use Rattle.path.specs.declared.Point.{Point}
use Rattle.path.specs.declared.Curve.{Curve}
use Rattle.path.specs.declared.Edge.{Edge}
use Rattle.path.specs.declared.Walk.{Walk}
use Rattle.path.specs.Boxes.{outer}
use Rattle.path.specs.Matrices.{transform_axis, transform, on_surface_grid}
use Rattle.path.specs.Segments.{taking, coordinates_taken, number, number_move, point, origin, line_to, pair_at, points_of, pen_after}
use Rattle.path.specs.Segments.{coordinate_from, curve_at, first_walk, walk_on, walk_to, fault_to}
use Rattle.path.specs.Curves.{edge, curve_edges, transform_curve, drawn_edges, segment_edges, edges_to, path_edges}
use Rattle.path.specs.Limits.{Near}
use Rattle.path.specs.Plain.{is_plain, plain_to, taken_to, is_small}
use Rattle.path.proofs.Faults.{accepted_ready}
use Rattle.path.proofs.Untraced.{Plain, plain, point_on}
use Rattle.outline.specs.Asked.{Placed}
use Rattle.outline.specs.Corners.{grown_by}
use Rattle.outline.specs.Around.{Beyond, side_of, axis_of, Over, Around}
use Rattle.outline.specs.Frames.{is_paired, paired_to, point_of, Framed, FramedBy, Takes, from_end, to_end, crossed, NearEnds}
use Rattle.outline.proofs.Around.{wider_refl, grown_wider, over_wider, grown_from, four_over, around_more, start_around, points_around, floor_order}
use Rattle.outline.proofs.Counts.{curve_line}
use Rattle.outline.proofs.Outermost.{beyond_trans}

module _ (c r : Edge) (p : Point) (e : r ≡ grown_by c (edge p p)) where
  pub framed_more : (cs : List ℕ) (n : ℕ) → p ≡ point_of cs n → Framed c cs n → Framed r cs (n + 1)
  framed_more cs n q h = record { each = λ i l. ⊎_elim (λ s. last i s) (λ s. before i s) (eq-or-lt_of_le (omega arith)) }
    where
      last : (i : ℕ) → i ≡ n → Over r (point_of cs i)
      last i s = rw (e, s, sym q) (grown_from c p p)

      before : (i : ℕ) → i < n → Over r (point_of cs i)
      before i s = rw e (over_wider (grown_by c (edge p p)) c (point_of cs i) (grown_wider c (edge p p)) (h.each i s))

  outer_near : (greater : Bool) (a b : ℤ) → nat_abs a ≤ 32768 → nat_abs b ≤ 32768 → nat_abs (outer greater a b) ≤ 32768
  unfolding outer
  outer_near true a b h k = either (le_z a b) (λ t. rw t k) (λ t. rw t h)
  outer_near false a b h k = either (le_z a b) (λ t. rw t h) (λ t. rw t k)

  pub near_more : NearEnds c → Near p → NearEnds r
  near_more h n = rw e (record {
    x0 = outer_near false c.x0 _ h.x0 (outer_near false p.x p.x n.x n.x);
    y0 = outer_near false c.y0 _ h.y0 (outer_near false p.y p.y n.y n.y);
    x1 = outer_near true c.x1 _ h.x1 (outer_near true p.x p.x n.x n.x);
    y1 = outer_near true c.y1 _ h.y1 (outer_near true p.y p.y n.y n.y);
  })

-- ---- points that the matrix takes
pub near_placed : (m : FixedMatrix) (p q : Point) → is_small m ≡ true → p ≡ q → Near q → Placed m p
near_placed m p q small e n = rw e (record { near = n; there = is_true (on_surface_grid (transform m q)) (point_on m small q n) })

-- ---- one axis of a point of a box is outermost at a corner
rises : (k : ℕ) (a b : ℤ) → a ≤ℤ b → (pos k *ℤ a) ≤ℤ (pos k *ℤ b)
rises k a b h = le (num k ⊗ var a) (num k ⊗ var b) (omega (arith, mul-le-mul_left k (from_le (var a) (var b) h)))

falls : (k : ℕ) (a b : ℤ) → a ≤ℤ b → (negsuc k *ℤ b) ≤ℤ (negsuc k *ℤ a)
falls k a b h = le (var (negsuc k) ⊗ var b) (var (negsuc k) ⊗ var a) (omega (arith, mul-le-mul_left (suc k) (from_le (var a) (var b) h)))

-- the side of a box at which a multiple is: a negative one on the other
abbrev turned : Bool → ℤ → Bool
turned greater (pos k) = greater
turned greater (negsuc k) = not greater

multiple_side : (greater axis : Bool) (a : ℤ) (b : Edge) (p : Point) → Over b p
    → Beyond greater (a *ℤ side_of (turned greater a) axis b) (a *ℤ axis_of axis p)
multiple_side true axis (pos k) b p h = rises k _ _ (h.side true axis)
multiple_side false axis (pos k) b p h = rises k _ _ (h.side false axis)
multiple_side true axis (negsuc k) b p h = falls k _ _ (h.side false axis)
multiple_side false axis (negsuc k) b p h = falls k _ _ (h.side true axis)

sum_order : (a b c d t : ℤ) → a ≤ℤ b → c ≤ℤ d → (a +ℤ c +ℤ t +ℤ pos 128) ≤ℤ (b +ℤ d +ℤ t +ℤ pos 128)
sum_order a b c d t h k =
    le (var a ⊕ var c ⊕ var t ⊕ num 128) (var b ⊕ var d ⊕ var t ⊕ num 128) (omega (arith, from_le (var a) (var b) h, from_le (var c) (var d) k))

axis_order : (greater : Bool) (a b t : ℤ) (q p : Point) → Beyond greater (a *ℤ q.x) (a *ℤ p.x) → Beyond greater (b *ℤ q.y) (b *ℤ p.y)
    → Beyond greater (transform_axis a b t q) (transform_axis a b t p)
axis_order true a b t q p h k = floor_order _ _ (sum_order _ _ _ _ t h k)
axis_order false a b t q p h k = floor_order _ _ (sum_order _ _ _ _ t h k)

abbrev corner : Bool → Bool → Edge → Point
corner right above b = point (side_of right false b) (side_of above true b)

module _ (m : FixedMatrix) (b r : Edge) (all : (right above : Bool) → Over r (transform m (corner right above b))) where
  corners_take : Takes m b r
  corners_take = record { each = λ p o. record { side = λ greater axis. by p o greater axis } }
    where
      by : (p : Point) → Over b p → (greater axis : Bool) → Beyond greater (side_of greater axis r) (axis_of axis (transform m p))
      by p o greater true =
          let q = corner (turned greater m.shy) (turned greater m.sy) b in
          beyond_trans greater _ (transform m q).y _ ((all (turned greater m.shy) (turned greater m.sy)).side greater true)
          (axis_order greater m.shy m.sy m.ty q p (multiple_side greater false m.shy b p o) (multiple_side greater true m.sy b p o))
      by p o greater false =
          let q = corner (turned greater m.sx) (turned greater m.shx) b in
          beyond_trans greater _ (transform m q).x _ ((all (turned greater m.sx) (turned greater m.shx)).side greater false)
          (axis_order greater m.sx m.shx m.tx q p (multiple_side greater false m.sx b p o) (multiple_side greater true m.shx b p o))

pub diagonals_take : (m : FixedMatrix) (b c d r : Edge)
    → d ≡ grown_by c (edge (transform m (from_end b)) (transform m (to_end b)))
    → r ≡ grown_by d (edge (transform m (from_end (crossed b))) (transform m (to_end (crossed b)))) → Takes m b r
diagonals_take m b c d r e f = corners_take m b r by
  where
    by : (right above : Bool) → Over r (transform m (corner right above b))
    by false false = (four_over c d r _ _ _ _ e f).0.0
    by true true = (four_over c d r _ _ _ _ e f).0.1
    by false true = (four_over c d r _ _ _ _ e f).1.0
    by true false = (four_over c d r _ _ _ _ e f).1.1

-- ---- the coordinates of a path
used_taken : (ss cs : List ℕ) (n : ℕ) → (walk_to ss cs n).used ≡ taken_to ss n
used_taken ss cs zero = refl
used_taken ss cs (suc n) = ap (λ (k : ℕ). k + coordinates_taken (get_or ss n 0)) (used_taken ss cs n)

-- those of an accepted path are there
pub taken_there : (m : FixedMatrix) (ss cs : List ℕ) (n : ℕ) → fault_to m ss cs n ≡ Ok tt → 2 * taken_to ss n ≤ length cs
taken_there m ss cs n e = subst (λ (k : ℕ). 2 * k ≤ length cs) (used_taken ss cs n) (accepted_ready m ss cs n e).there

pair_point : (cs : List ℕ) (used j : ℕ) → (used + j) % 2 ≡ 0 → point_of cs ((used + j) / 2) ≡ pair_at origin (coordinate_from cs used) j
unfolding point_of
pair_point cs used j h =
    let i = (used + j) / 2 in
    let ex : 4 * i ≡ 2 * (used + j) = omega arith in
    let ey : 4 * i + 2 ≡ 2 * (used + (j + 1)) = omega arith in
    let x = ap (i16_at cs) ex ∙ sym (+ℤ_idl (i16_at cs (2 * (used + j)))) in
    let y = ap (i16_at cs) ey ∙ sym (+ℤ_idl (i16_at cs (2 * (used + (j + 1))))) in
    λ k. record { x = x k; y = y k }

-- ---- the commands that are left: close, move, line, quad, cubic
data Kind : ℕ → Type 0 where
  close : Kind 0
  move : Kind 1
  line : Kind 2
  quad : Kind 5
  cubic : Kind 6

kind : (byte : ℕ) → Plain byte → is_paired byte ≡ true → Kind (byte / 2)
kind byte p q = let h = p.few in by (byte / 2) refl (omega arith)
  where
    not_six : byte ≡ 6 → ⊥
    not_six e = true≢false (sym (rw e at q))

    not_eight : byte ≡ 8 → ⊥
    not_eight e = true≢false (sym (rw e at q))

    even : byte % 2 ≡ 1 → ⊥
    even = eqb-false (byte % 2) 1 p.absolute

    by : (k : ℕ) → byte / 2 ≡ k → k < 7 → Kind k
    by zero e l = close
    by (suc zero) e l = move
    by (suc (suc zero)) e l = line
    by (suc (suc (suc zero))) e l = absurd (not_six (omega (arith, even)))
    by (suc (suc (suc (suc zero)))) e l = absurd (not_eight (omega (arith, even)))
    by (suc (suc (suc (suc (suc zero))))) e l = quad
    by (suc (suc (suc (suc (suc (suc zero)))))) e l = cubic
    by (suc (suc (suc (suc (suc (suc (suc k))))))) e l = absurd (omega arith)

kind_even : (k : ℕ) → Kind k → get_or taking k 0 % 2 ≡ 0
kind_even k close = refl
kind_even k move = refl
kind_even k line = refl
kind_even k quad = refl
kind_even k cubic = refl

-- ---- a box that holds the points of such segments
module _ (m : FixedMatrix) (cs : List ℕ) (c : Edge) where
  -- a curve with its points in it
  record Inside (v : Curve) : Type 0 where
    some : 1 ≤ v.degree
    most : v.degree ≤ 3
    p1 : Over c (transform m v.p1)
    p2 : Over c (transform m v.p2)
    p3 : Over c (transform m v.p3)

  line_inside : (p : Point) → Over c (transform m p) → Inside (line_to p)
  line_inside p h = record { some = omega arith; most = omega arith; p1 = h; p2 = h; p3 = h }

  inside_around : (p : Point) (v : Curve) → Over c (transform m p) → Inside v → Around c (curve_edges (transform m p) (transform_curve m v))
  inside_around p v o h = points_around c (transform m p) (transform_curve m v) h.some h.most o h.p1 h.p2 h.p3

  pair_inside : (total used j : ℕ) → FramedBy m c cs (total / 2) → used % 2 ≡ 0 → j % 2 ≡ 0 → used + j + 2 ≤ total
      → Over c (transform m (pair_at origin (coordinate_from cs used) j))
  pair_inside total used j f e d l =
      subst (λ (p : Point). Over c (transform m p)) (pair_point cs used j (omega arith)) (f.each ((used + j) / 2) (omega arith))

  -- what is kept from segment to segment
  record Kept (w : Walk) (es : List Edge) : Type 0 where
    even : w.used % 2 ≡ 0
    start : Over c (transform m w.pen.start)
    current : Over c (transform m w.pen.current)
    edges : Around c es

  -- the first segment is a move, which draws nothing
  kept_first : (byte : ℕ) → byte ≡ 2 → FramedBy m c cs ((0 + coordinates_taken byte) / 2)
      → Kept (walk_on cs first_walk byte) (segment_edges m cs first_walk byte)
  unfolding points_of pen_after
  kept_first byte e f = subst (λ (k : ℕ). Kept (walk_on cs first_walk k) (segment_edges m cs first_walk k)) (sym e) moved
    where
      there : Over c (transform m (pair_at origin (coordinate_from cs 0) 0))
      there = pair_inside 2 0 0 (rw e at f) refl refl (omega arith)

      moved : Kept (walk_on cs first_walk 2) (segment_edges m cs first_walk 2)
      moved = record {
        even = refl;
        start = there;
        current = there;
        edges = rw (curve_line (transform m origin) (transform_curve m (line_to origin)) refl) (start_around c m origin origin refl);
      }

  module _ (w : Walk) (es : List Edge) (before : Kept w es) (byte total : ℕ) (framed : FramedBy m c cs (total / 2))
      (enough : w.used + coordinates_taken byte ≤ total) (p : Plain byte) (paired : is_paired byte ≡ true) where
    pair : (j : ℕ) → j % 2 ≡ 0 → w.used + j + 2 ≤ total → Over c (transform m (pair_at origin (coordinate_from cs w.used) j))
    pair j e l = pair_inside total w.used j framed before.even e l

    points_inside : Inside (curve_at cs w byte)
    unfolding points_of
    points_inside = by (byte / 2) refl (kind byte p paired) enough
      where
        by : (k : ℕ) → byte / 2 ≡ k → Kind k → w.used + get_or taking k 0 ≤ total → Inside (curve_at cs w byte)
        by k e close l = rw e (line_inside w.pen.start before.start)
        by k e move l = rw (e, p.absolute) (line_inside _ (pair 0 refl (omega arith)))
        by k e line l = rw (e, p.absolute) (line_inside _ (pair 0 refl (omega arith)))
        by k e quad l = rw (e, p.absolute) (record {
          some = omega arith;
          most = omega arith;
          p1 = pair 0 refl (omega arith);
          p2 = pair 2 refl (omega arith);
          p3 = pair 2 refl (omega arith);
        })
        by k e cubic l = rw (e, p.absolute) (record {
          some = omega arith;
          most = omega arith;
          p1 = pair 0 refl (omega arith);
          p2 = pair 2 refl (omega arith);
          p3 = pair 4 refl (omega arith);
        })

    kept_next : Kept (walk_on cs w byte) (es ++ segment_edges m cs w byte)
    unfolding pen_after
    kept_next = record {
      even = omega (arith, kind_even (byte / 2) (kind byte p paired), before.even);
      start = begun (eqb (number byte) number_move);
      current = points_inside.p3;
      edges = around_more c c es (segment_edges m cs w byte) (wider_refl c) before.edges
          (inside_around w.pen.current _ before.current (drawn (leb (number byte) number_move)));
    }
      where
        begun : (t : Bool) → Over c (transform m (cond t (curve_at cs w byte).p3 w.pen.start))
        begun true = points_inside.p3
        begun false = before.start

        drawn : (t : Bool) → Inside (cond t (line_to w.pen.start) (curve_at cs w byte))
        drawn true = line_inside w.pen.start before.start
        drawn false = points_inside

  -- ---- the whole path
  module _ (ss : List ℕ) (moves : get_or ss 0 0 ≡ 2) where
    kept : (n : ℕ) → plain_to ss (suc n) ≡ true → paired_to ss (suc n) ≡ true → FramedBy m c cs (taken_to ss (suc n) / 2)
        → Kept (walk_to ss cs (suc n)) (edges_to m ss cs (suc n))
    kept zero h k f = kept_first (get_or ss 0 0) moves f
    kept (suc n) h k f =
        let byte = get_or ss (suc n) 0 in
        let w = walk_to ss cs (suc n) in
        let total = taken_to ss (suc n) + coordinates_taken byte in
        let a = both (plain_to ss (suc n)) (is_plain byte) h in
        let b = both (is_paired byte) (paired_to ss (suc n)) k in
        let before : FramedBy m c cs (taken_to ss (suc n) / 2) = record { each = λ i l. f.each i (omega arith) } in
        let enough : w.used + coordinates_taken byte ≤ total = rw (used_taken ss cs (suc n)) (omega arith) in
        kept_next w (edges_to m ss cs (suc n)) (kept n a.0 b.1 before) byte total f enough (plain byte a.1) b.0

    pub frame_around : (n : ℕ) → 1 ≤ n → plain_to ss n ≡ true → paired_to ss n ≡ true → FramedBy m c cs (taken_to ss n / 2) → Around c (path_edges m ss cs n)
    unfolding path_edges
    frame_around zero some h k f = absurd (not-suc-le-zero some)
    frame_around (suc n) some h k f =
        let s = kept n h k f in
        let pen = (walk_to ss cs (suc n)).pen in
        around_more c c (edges_to m ss cs (suc n)) (drawn_edges m pen (line_to pen.start)) (wider_refl c) s.edges
        (inside_around pen.current (line_to pen.start) s.current (line_inside pen.start s.start))
