-- Plain segments under a small matrix: every point is in range and on the surface's grid, so that no segment is refused.
use mathlib.Core.Path.{◌≡◌, refl, sym, ap, subst, ◌∙◌}
use mathlib.Core.List.{List}
use mathlib.Core.Bool.{Bool, true, false, cond, ◌&&◌}
use mathlib.Core.Logic.{⊎_elim}
use Prim.Native.Nat.{ℕ, zero, suc, ◌+◌, ◌*◌, ◌/◌, ◌%◌, ◌≤◌, ◌<◌}
use native.Mathlib.Nat.{le_refl, eq-or-lt_of_le, le_of_suc-le-suc, not-suc-le-zero}
use native.Mathlib.Omega.{arith}
use lib.Dec.{T, leb, eqb, le→leb}
use lib.ListN.{length, get_or}
use lib.IntN.{ℤ, pos, negsuc, nat_abs, ◌+ℤ◌, ◌*ℤ◌, +ℤ_idl}
use borrow.Author.Tests.{leb-true, eqb-true}
use mir.Syntax.{w16}
use mir.Val.{SFits}
use Rattle.std.specs.Prelude.{Ok}
use Rattle.rect.proofs.Laws.{both}
use Rattle.fixed.specs.Little.{u16_at, i16_at}
use Rattle.fixed.specs.Floor.{floor_div}
use Rattle.fixed.proofs.Tests.{is_true, both_left, both_right}
use Rattle.fixed.proofs.Twos.{signed_fits}
use Rattle.fixed.proofs.Within.{Within, within_add, within_mul, within_pos}
use Rattle.path.specs.declared.FixedMatrix.{FixedMatrix}
use Rattle.path.specs.declared.Point.{Point}
use Rattle.path.specs.declared.Pen.{Pen}
use Rattle.path.specs.declared.Curve.{Curve}
use Rattle.path.specs.Matrices.{transform_axis, transform, on_surface_grid}
use Rattle.path.specs.Segments.{coordinates_taken, relative, number, number_move, in_sixteen_bits, in_range, point, base, pair_at, points_of, pen_after}
use Rattle.path.specs.Segments.{coordinate_from, curve_at, walk_to, curve_in_range, curve_on_grid, fault_to}
use Rattle.path.specs.Answers.{checked_to}
use Rattle.path.specs.Plain.{is_plain, plain_to, taken_to, axis_small, is_small}
use Rattle.path.specs.Limits.{Near}
use Rattle.path.proofs.Codes.{near_curve, code_judged}
use Rattle.path.proofs.Faults.{accepted_next, checked_accepted}

two : (a b : Bool) → T a → T b → T (a && b)
two true b h k = k
two false b h k = elim h [ ]

-- three points in range
three : (p q r : Point) → T (in_range p) → T (in_range q) → T (in_range r) → T (in_range p && (in_range q && in_range r))
three p q r h k l = two (in_range p) (in_range q && in_range r) h (two (in_range q) (in_range r) k l)

-- ---- a plain segment by its byte
pub record Plain (byte : ℕ) : Type 0 where
  pub absolute : relative byte ≡ false
  pub few : byte ≤ 12

pub plain : (byte : ℕ) → is_plain byte ≡ true → Plain byte
plain byte h =
    let b = both (eqb (byte % 2) 0) (leb byte 12) h in
    let e = eqb-true (byte % 2) 0 b.0 in
    record { absolute = rw e; few = leb-true byte 12 b.1 }

pub plain_below : (ss : List ℕ) (n : ℕ) → plain_to ss n ≡ true → (i : ℕ) → i < n → get_or ss i 0 < 18
plain_below ss zero h i l = absurd (not-suc-le-zero l)
plain_below ss (suc n) h i l =
    let b = both (plain_to ss n) (is_plain (get_or ss n 0)) h in
    let k = (plain (get_or ss n 0) b.1).few in
    ⊎_elim (λ e. rw e (omega arith)) (plain_below ss n b.0 i) (eq-or-lt_of_le (le_of_suc-le-suc l))

-- ---- its points are in range
coordinate_in : (z : ℤ) → SFits w16 z → T (in_sixteen_bits (pos 0 +ℤ z))
coordinate_in z f = subst (λ (y : ℤ). T (in_sixteen_bits y)) (sym (+ℤ_idl z)) (by z f)
  where
    by : (y : ℤ) → SFits w16 y → T (in_sixteen_bits y)
    by (pos n) f = let h = f.sfits in le→leb n 32767 (omega arith)
    by (negsuc n) f = let h = f.sfits in two (leb n 32767) true (le→leb n 32767 (omega arith)) tt

module _ (pen : Pen) (byte : ℕ) (c : ℕ → ℤ) (start : T (in_range pen.start)) (current : T (in_range pen.current))
    (in16 : (j : ℕ) → T (in_sixteen_bits (pos 0 +ℤ c j))) (p : Plain byte) where
  abbrev pair_of : ℕ → Point
  pair_of j = pair_at (base byte pen) c j

  pair : (j : ℕ) → T (in_range (pair_of j))
  pair j = rw p.absolute (two (in_sixteen_bits (pos 0 +ℤ c j)) (in_sixteen_bits (pos 0 +ℤ c (j + 1))) (in16 j) (in16 (j + 1)))

  abbrev across : Point
  across = point ((base byte pen).x +ℤ c 0) pen.current.y

  across_in : T (in_range across)
  across_in =
      rw p.absolute
      (two (in_sixteen_bits (pos 0 +ℤ c 0)) (in_sixteen_bits pen.current.y) (in16 0)
      (both_right (in_sixteen_bits pen.current.x) (in_sixteen_bits pen.current.y) current))

  abbrev along : Point
  along = point pen.current.x ((base byte pen).y +ℤ c 0)

  along_in : T (in_range along)
  along_in =
      rw p.absolute
      (two (in_sixteen_bits pen.current.x) (in_sixteen_bits (pos 0 +ℤ c 0))
      (both_left (in_sixteen_bits pen.current.x) (in_sixteen_bits pen.current.y) current) (in16 0))

  points_in : T (curve_in_range (points_of pen byte c))
  unfolding points_of
  points_in = let h = p.few in by (byte / 2) refl (omega arith)
    where
      by : (k : ℕ) → byte / 2 ≡ k → k < 7 → T (curve_in_range (points_of pen byte c))
      by zero e l = rw e (three pen.start pen.start pen.start start start start)
      by (suc zero) e l = rw e (three (pair_of 0) (pair_of 0) (pair_of 0) (pair 0) (pair 0) (pair 0))
      by (suc (suc zero)) e l = rw e (three (pair_of 0) (pair_of 0) (pair_of 0) (pair 0) (pair 0) (pair 0))
      by (suc (suc (suc zero))) e l = rw e (three across across across across_in across_in across_in)
      by (suc (suc (suc (suc zero)))) e l = rw e (three along along along along_in along_in along_in)
      by (suc (suc (suc (suc (suc zero))))) e l = rw e (three (pair_of 0) (pair_of 2) (pair_of 2) (pair 0) (pair 2) (pair 2))
      by (suc (suc (suc (suc (suc (suc zero)))))) e l = rw e (three (pair_of 0) (pair_of 2) (pair_of 4) (pair 0) (pair 2) (pair 4))
      by (suc (suc (suc (suc (suc (suc (suc k))))))) e l = absurd (omega arith)

-- ---- and on the grid
shifted : (z : ℤ) → nat_abs z ≤ 2147483648 → nat_abs (floor_div z 256) ≤ 8388608
shifted (pos a) h = omega arith
shifted (negsuc a) h = omega arith

axis_in : (a b t : ℤ) (p : Point) → Near p → axis_small a b t ≡ true → T (leb (nat_abs (transform_axis a b t p)) 8388608)
axis_in a b t p n h =
    let own : (z : ℤ) → Within (nat_abs z) z = λ z. record { size = le_refl (nat_abs z) } in
    let ax = within_mul {b = p.x} (own a) (record { size = n.x }) in
    let by = within_mul {b = p.y} (own b) (record { size = n.y }) in
    let sum = within_add (within_add (within_add ax by) (own t)) (within_pos 128) in
    let z = a *ℤ p.x +ℤ b *ℤ p.y +ℤ t +ℤ pos 128 in
    le→leb (nat_abs (floor_div z 256)) 8388608 (shifted z (omega (arith, sum.size, leb-true ((nat_abs a + nat_abs b) * 32768 + nat_abs t) 2147483520 h)))

module _ (m : FixedMatrix) (small : is_small m ≡ true) where
  pub point_on : (p : Point) → Near p → T (on_surface_grid (transform m p))
  unfolding is_small
  point_on p n =
      let b = both (axis_small m.sx m.shx m.tx) (axis_small m.shy m.sy m.ty) small in
      two (leb (nat_abs (transform m p).x) 8388608) (leb (nat_abs (transform m p).y) 8388608)
      (axis_in m.sx m.shx m.tx p n b.0) (axis_in m.shy m.sy m.ty p n b.1)

  curve_on : (c : Curve) → T (curve_in_range c) → T (curve_on_grid m c)
  curve_on c h =
      let n = near_curve c h in
      let on : Point → Bool = λ p. on_surface_grid (transform m p) in
      two (on c.p1) (on c.p2 && on c.p3) (point_on c.p1 n.p1)
      (two (on c.p2) (on c.p3) (point_on c.p2 n.p2) (point_on c.p3 n.p3))

  -- ---- the walk over plain segments
  module _ (ss cs : List ℕ) (bytes : (i : ℕ) → get_or cs i 0 < 256) where
    record Walked (n : ℕ) : Type 0 where
      pub fault : fault_to m ss cs n ≡ Ok tt
      pub used : (walk_to ss cs n).used ≡ taken_to ss n
      pub start : T (in_range (walk_to ss cs n).pen.start)
      pub current : T (in_range (walk_to ss cs n).pen.current)

    in16 : (at : ℕ) → T (in_sixteen_bits (pos 0 +ℤ i16_at cs at))
    in16 at =
        let a = bytes at in
        let b = bytes (at + 1) in
        coordinate_in (i16_at cs at) (signed_fits w16 (u16_at cs at) (omega arith))

    ends_in : (pen : Pen) (byte : ℕ) (c : Curve) → T (in_range pen.start) → T (curve_in_range c)
        → T (in_range (pen_after pen byte c).start) × T (in_range (pen_after pen byte c).current)
    unfolding pen_after
    ends_in pen byte c s h =
        let e = both_right (in_range c.p2) (in_range c.p3) (both_right (in_range c.p1) (in_range c.p2 && in_range c.p3) h) in
        (either (eqb (number byte) number_move) c.p3 pen.start e s, e)
      where
        either : (t : Bool) (p q : Point) → T (in_range p) → T (in_range q) → T (in_range (cond t p q))
        either true p q a b = a
        either false p q a b = b

    walked : (n : ℕ) → plain_to ss n ≡ true → 2 * taken_to ss n ≤ length cs → Walked n
    walked zero h e = record { fault = refl; used = refl; start = tt; current = tt }
    walked (suc n) h e =
        let b = both (plain_to ss n) (is_plain (get_or ss n 0)) h in
        let before = walked n b.0 (omega arith) in
        let byte = get_or ss n 0 in
        let walk = walk_to ss cs n in
        let p = plain byte b.1 in
        let c = curve_at cs walk byte in
        let inside = points_in walk.pen byte (coordinate_from cs walk.used) before.start before.current (λ j. in16 (2 * (walk.used + j))) p in
        let both_hold = is_true (curve_in_range c && curve_on_grid m c) (two (curve_in_range c) (curve_on_grid m c) inside (curve_on c inside)) in
        let enough : 2 * (walk.used + coordinates_taken byte) ≤ length cs = rw before.used e in
        let ends = ends_in walk.pen byte c before.start inside in
        record {
          fault = accepted_next m ss cs n before.fault (code_judged m cs walk byte (omega (arith, p.few)) enough true both_hold);
          used = ap (λ (k : ℕ). k + coordinates_taken byte) before.used;
          start = ends.0;
          current = ends.1;
        }

    pub plain_checked : (n u : ℕ) → plain_to ss n ≡ true → u ≡ taken_to ss n → 2 * u ≤ length cs
        → Ok u ≡ checked_to m ss cs n
    plain_checked n u h e l =
        let w = walked n h (rw e at l) in
        checked_accepted m ss cs n u w.fault (e ∙ sym w.used)
