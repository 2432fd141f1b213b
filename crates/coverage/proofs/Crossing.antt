-- The first sample column at or right of a crossing: of n over 64 d, rounded up.
use mathlib.Core.Path.{◌≡◌, refl, sym, ap, subst, ◌∙◌}
use mathlib.Core.Bool.{Bool, true, false, not, cond}
use Prim.Native.Nat.{ℕ, ◌+◌, ◌*◌, ◌-◌, ◌/◌, ◌≤◌, ◌<◌}
use native.Mathlib.Nat.{lt_of_mul-lt-mul_right, mul-le-mul_right, div-div-eq-div-mul}
use native.Mathlib.Omega.{arith}
use lib.Dec.{T, not_T, leb, leb→le, le→leb, leb-zero}
use borrow.Author.Tests.{le-leb, lt-leb, leb-true, leb-false}
use lib.IntN.{ℤ, pos, negsuc, nat_abs, ◌+ℤ◌, ◌-ℤ◌, ◌*ℤ◌}
use lib.Signed.{le_z, lt_z, ◌≤ℤ◌, ◌<ℤ◌, le_z_yes, lt_z_yes, lt_z_no, clash_ℤ, ≤ℤ_refl}
use Rattle.fixed.specs.Floor.{floor_div}
use Rattle.fixed.proofs.Poly.{up, dn, var, num, ◌⊕◌, ◌⊖◌, ◌⊗◌, le, lt, from_le, from_lt}
use Rattle.fixed.proofs.Round.{from_floor}
use Rattle.fixed.proofs.Sign.{is_positive, above_zero, zero_or_more}
use Rattle.path.specs.declared.Edge.{Edge}
use Rattle.coverage.specs.Winding.{left_up}
use Rattle.coverage.specs.Scanline.{ceil_div, first_column, place}
use Rattle.fixed.proofs.Tests.{same_test, le_z_not, ≤ℤ_trans}

-- not at or below is above
pub above : (y Y : ℤ) → lt_z Y y ≡ not (le_z y Y)
above y Y =
    same_test (lt_z Y y) (not (le_z y Y)) (λ t. not_T (le_z y Y) (λ h. clash_ℤ {a = Y} {b = y} (lt_z_yes t) (le_z_yes h)))
    (λ t. back (lt_z Y y) (λ h. absurd (no (le_z y Y) t (lt_z_no {a = Y} {b = y} h).le)))
  where
    no : (b : Bool) → T (not b) → T b → ⊥
    no true s t = s
    no false s t = t

    back : (b : Bool) → (T (not b) → T b) → T b
    back true f = tt
    back false f = f tt

-- n ≤ j D where ⌈n / D⌉ ≤ j, and the other way round
up_to : (n j : ℤ) (D : ℕ) → 0 < D → n ≤ℤ (j *ℤ pos D) → ceil_div n D ≤ℤ j
up_to n j D h k =
    let f = from_floor (var n ⊕ num D ⊖ num 1) D h in
    let q = ceil_div n D in
    let l : (up q + dn j) * D < (up j + dn q + 1) * D = omega (arith, from_le (var n) (var j ⊗ num D) k) in
    le (var q) (var j) (omega (arith, lt_of_mul-lt-mul_right D l))

from_it : (n j : ℤ) (D : ℕ) → 0 < D → ceil_div n D ≤ℤ j → n ≤ℤ (j *ℤ pos D)
from_it n j D h k =
    let f = from_floor (var n ⊕ num D ⊖ num 1) D h in
    let q = ceil_div n D in
    let l : (up q + dn j) * D ≤ (up j + dn q) * D = mul-le-mul_right D (omega (arith, from_le (var q) (var j) k)) in
    le (var n) (var j ⊗ num D) (omega arith)

pub ceil_rises : (n m : ℤ) (D : ℕ) → 0 < D → n ≤ℤ m → ceil_div n D ≤ℤ ceil_div m D
ceil_rises n m D h k = let q = ceil_div m D in up_to n q D h (≤ℤ_trans k (from_it m q D h (≤ℤ_refl q)))

ceil_law : (n j : ℤ) (D : ℕ) → 0 < D → le_z n (j *ℤ pos D) ≡ le_z (ceil_div n D) j
ceil_law n j D h = same_test (le_z n (j *ℤ pos D)) (le_z (ceil_div n D) j) (λ t. (up_to n j D h (le_z_yes t)).le) (λ t. (from_it n j D h (le_z_yes t)).le)

-- the crossing's test with the products put on the other side
moved : (a x j : ℤ) (d : ℕ) → le_z a ((pos 64 *ℤ j +ℤ pos 32 -ℤ x) *ℤ pos d) ≡ le_z (a +ℤ (x -ℤ pos 32) *ℤ pos d) (j *ℤ pos (64 * d))
moved a x j d =
    let l = var a in
    let r = (num 64 ⊗ var j ⊕ num 32 ⊖ var x) ⊗ num d in
    let l' = var a ⊕ (var x ⊖ num 32) ⊗ num d in
    let r' = var j ⊗ num (64 * d) in
    same_test (le_z l.int r.int) (le_z l'.int r'.int) (λ t. (le l' r' (omega (arith, from_le l r (le_z_yes t)))).le)
    (λ t. (le l r (omega (arith, from_le l' r' (le_z_yes t)))).le)

-- what an edge that goes up has
pub rise_of_lem : (a b : ℤ) → a <ℤ b → pos 0 <ℤ (b -ℤ a)
rise_of_lem a b h = lt (num 0) (var b ⊖ var a) (omega (arith, from_lt (var a) (var b) h))

-- THE LAW of the first column
pub first_column_law : (u : Edge) (Y j : ℤ) → u.y0 <ℤ u.y1 → left_up u (pos 64 *ℤ j +ℤ pos 32) Y ≡ le_z (first_column u Y) j
unfolding first_column
first_column_law u Y j h =
    let dy = u.y1 -ℤ u.y0 in
    let d = nat_abs dy in
    let a = (Y -ℤ u.y0) *ℤ (u.x1 -ℤ u.x0) in
    let p = rise_of_lem u.y0 u.y1 h in
    subst (λ (z : ℤ). le_z a ((pos 64 *ℤ j +ℤ pos 32 -ℤ u.x0) *ℤ z) ≡ le_z (ceil_div (a +ℤ (u.x0 -ℤ pos 32) *ℤ z) (64 * d)) j) (sym (is_positive p))
    (moved a u.x0 j d ∙ ceil_law (a +ℤ (u.x0 -ℤ pos 32) *ℤ pos d) j (64 * d) (omega (arith, above_zero p)))

-- a column of a window of k columns from c on
pub place_law : (c k : ℕ) (z : ℤ) (j : ℕ) → j < k → leb (place c k z) j ≡ le_z z (pos (c + j))
unfolding place
place_law c k (negsuc n) j h = leb-zero j
place_law c k (pos n) j h = by (leb n c) (leb (c + k) n) refl refl
  where
    by : (s t : Bool) → leb n c ≡ s → leb (c + k) n ≡ t → leb (cond s 0 (cond t k (n - c))) j ≡ leb n (c + j)
    by true t e f = leb-zero j ∙ sym (le-leb n (c + j) (omega (arith, leb-true n c e)))
    by false true e f = lt-leb k j h ∙ sym (lt-leb n (c + j) (omega (arith, leb-true (c + k) n f)))
    by false false e f = same_test (leb (n - c) j) (leb n (c + j)) (λ t. le→leb n (c + j) (omega (arith, leb→le (n - c) j t)))
        (λ t. le→leb (n - c) j (omega (arith, leb→le n (c + j) t)))

-- a place, by what its tests tell
module _ (c k : ℕ) (z : ℤ) where
  place_left : le_z z (pos c) ≡ true → 0 ≡ place c k z
  unfolding place
  place_left e = rw e

  place_right : le_z z (pos c) ≡ false → le_z (pos (c + k)) z ≡ true → k ≡ place c k z
  unfolding place
  place_right e f = rw (e, f)

  place_in : le_z z (pos c) ≡ false → le_z (pos (c + k)) z ≡ false → nat_abs z - c ≡ place c k z
  unfolding place
  place_in e f = rw (e, f)

right_of : (z : ℤ) (c : ℕ) → le_z z (pos c) ≡ false → c ≤ nat_abs z
right_of (pos n) c e = omega (arith, leb-false n c e)
right_of (negsuc n) c e = absurd (subst T e tt)

-- ---- as the code computes it: n over 64 d, with no division outside of the window
before_it : (n j : ℤ) (D : ℕ) → 0 < D → lt_z ((j -ℤ pos 1) *ℤ pos D) n ≡ le_z j (ceil_div n D)
before_it n j D h =
    above n ((j -ℤ pos 1) *ℤ pos D) ∙ ap not (ceil_law n (j -ℤ pos 1) D h) ∙ sym (above (ceil_div n D) (j -ℤ pos 1))
    ∙ same_test (lt_z (j -ℤ pos 1) (ceil_div n D)) (le_z j (ceil_div n D))
    (λ t. (le (var j) (var (ceil_div n D)) (omega (arith, from_lt (var j ⊖ num 1) (var (ceil_div n D)) (lt_z_yes t)))).le)
    (λ t. (lt (var j ⊖ num 1) (var (ceil_div n D)) (omega (arith, from_le (var j) (var (ceil_div n D)) (le_z_yes t)))).lt)

module _ (n d : ℤ) (c k : ℕ) (h : pos 0 <ℤ d) where
  abbrev width : ℕ
  width = 64 * nat_abs d

  positive : 0 < width
  positive = omega (arith, above_zero h)

  width_is : pos 64 *ℤ d ≡ pos width
  width_is = ap (λ (z : ℤ). pos 64 *ℤ z) (is_positive h)

  left_test : le_z n (pos c *ℤ (pos 64 *ℤ d)) ≡ le_z (ceil_div n width) (pos c)
  left_test = ap (λ (z : ℤ). le_z n (pos c *ℤ z)) width_is ∙ ceil_law n (pos c) width positive

  right_test : lt_z ((pos (c + k) -ℤ pos 1) *ℤ (pos 64 *ℤ d)) n ≡ le_z (pos (c + k)) (ceil_div n width)
  right_test = ap (λ (z : ℤ). lt_z ((pos (c + k) -ℤ pos 1) *ℤ z) n) width_is ∙ before_it n (pos (c + k)) width positive

  pub column_left : le_z n (pos c *ℤ (pos 64 *ℤ d)) ≡ true → 0 ≡ place c k (ceil_div n width)
  column_left e = place_left c k (ceil_div n width) (sym left_test ∙ e)

  module _ (e : le_z n (pos c *ℤ (pos 64 *ℤ d)) ≡ false) where
    pub column_right : lt_z ((pos (c + k) -ℤ pos 1) *ℤ (pos 64 *ℤ d)) n ≡ true → k ≡ place c k (ceil_div n width)
    column_right f = place_right c k (ceil_div n width) (sym left_test ∙ e) (sym right_test ∙ f)

    pub top_is : n +ℤ pos 64 *ℤ d -ℤ pos 1 ≡ pos (nat_abs (n +ℤ pos 64 *ℤ d -ℤ pos 1))
    top_is = zero_or_more (subst (λ (z : ℤ). pos 0 ≤ℤ (n +ℤ z -ℤ pos 1)) (sym width_is) (from_left (subst (λ (z : ℤ). le_z n (pos c *ℤ z) ≡ false) width_is e)))
      where
        from_left : le_z n (pos c *ℤ pos width) ≡ false → pos 0 ≤ℤ (n +ℤ pos width -ℤ pos 1)
        from_left f = le (num 0) (var n ⊕ num width ⊖ num 1) (omega (arith, positive, from_le (num c ⊗ num width) (var n) (le_z_not n (pos c *ℤ pos width) f)))

    column_is : nat_abs (n +ℤ pos 64 *ℤ d -ℤ pos 1) / 64 / nat_abs d ≡ nat_abs (ceil_div n width)
    column_is =
        div-div-eq-div-mul (nat_abs (n +ℤ pos 64 *ℤ d -ℤ pos 1)) 64 (nat_abs d)
        ∙ ap (λ (z : ℤ). nat_abs (floor_div z width)) (sym top_is) ∙ ap (λ (z : ℤ). nat_abs (floor_div (n +ℤ z -ℤ pos 1) width)) width_is

    pub column_past : c ≤ nat_abs (n +ℤ pos 64 *ℤ d -ℤ pos 1) / 64 / nat_abs d
    column_past = subst (λ (m : ℕ). c ≤ m) (sym column_is) (right_of (ceil_div n width) c (sym left_test ∙ e))

    pub column_inside : lt_z ((pos (c + k) -ℤ pos 1) *ℤ (pos 64 *ℤ d)) n ≡ false
        → nat_abs (n +ℤ pos 64 *ℤ d -ℤ pos 1) / 64 / nat_abs d - c ≡ place c k (ceil_div n width)
    column_inside f = ap (λ (m : ℕ). m - c) column_is ∙ place_in c k (ceil_div n width) (sym left_test ∙ e) (sym right_test ∙ f)

-- the crossing of an edge that goes up
pub crossing_is : (u : Edge) (Y n : ℤ) → n ≡ (Y -ℤ u.y0) *ℤ (u.x1 -ℤ u.x0) +ℤ (u.x0 -ℤ pos 32) *ℤ (u.y1 -ℤ u.y0)
    → ceil_div n (64 * nat_abs (u.y1 -ℤ u.y0)) ≡ first_column u Y
unfolding first_column
crossing_is u Y n e = ap (λ (m : ℤ). ceil_div m (64 * nat_abs (u.y1 -ℤ u.y0))) e
