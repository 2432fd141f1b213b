-- Curves cut at k / 16, over the degree: the weights add up to 16 ^ degree, so a cut point is no larger than the control points; at 0 it is
-- the first of them and at 16 the last.
use mathlib.Core.Path.{◌≡◌, refl, sym, ap, subst, ◌∙◌}
use mathlib.Core.Bool.{Bool, true, false, ◌&&◌}
use Prim.Native.Nat.{ℕ, ◌+◌, ◌-◌, ◌*◌, ◌/◌, ◌^◌, ◌≤◌, ◌<◌}
use native.Mathlib.Nat.{le_trans, le_refl, lt_of_mul-lt-mul_right, mul-le-mul, mul-le-mul_right, pow-le-pow_right}
use native.Mathlib.Omega.{arith}
use lib.Dec.{T, eqb, eqb→eq}
use lib.IntN.{ℤ, pos, ◌+ℤ◌, ◌*ℤ◌, +ℤ_idl, +ℤ_idr}
use lib.Signed.{◌≤ℤ◌}
use borrow.Author.Tests.{eqb-true, eqb-false}
use Rattle.rect.proofs.Laws.{either}
use Rattle.fixed.specs.Floor.{floor_div}
use Rattle.fixed.proofs.Within.{Within, within_pos, within_add, within_mul}
use Rattle.fixed.proofs.Poly.{up, dn, var, num, ◌⊕◌, ◌⊗◌, eq, le, from_le, within, from_within}
use Rattle.fixed.proofs.Round.{from_floor}
use Rattle.fixed.proofs.Upto.{upto}
use Rattle.fixed.proofs.Tests.{both_left, both_right}
use Rattle.path.specs.Curves.{weight, cut}
use Rattle.outline.specs.declared.Weights.{Weights}
use Rattle.outline.specs.Around.{Beyond}
use Rattle.outline.specs.Asked.{Full, weights_of, quad_weights, cubic_weights, summed, blended}

-- ---- a curve's degree
pub data Curved : ℕ → Type 0 where
  quad : Curved 2
  cubic : Curved 3

pub curved : (n : ℕ) → 2 ≤ n → n ≤ 3 → Curved n
curved n h k =
    either (eqb n 2)
    (λ e. subst Curved (sym (eqb-true n 2 e)) quad)
    (λ e. let f = eqb-false n 2 e in
    let three : 3 ≡ n = omega (arith, f) in
    subst Curved three cubic)

-- they add up to 16 ^ degree: by a test of each k
add_up : ℕ → ℕ → Bool
add_up degree k = eqb (weight degree k 0 + weight degree k 1 + weight degree k 2 + weight degree k 3) (16 ^ degree)

weights_full : {degree : ℕ} → Curved degree → (k : ℕ) → k ≤ 16 → Full degree (weights_of degree k)
unfolding add_up
weights_full quad k h = record { some = omega arith; most = omega arith; total = eqb→eq _ 256 (upto (add_up 2) 17 tt k (omega arith)) }
weights_full cubic k h = record { some = omega arith; most = omega arith; total = eqb→eq _ 4096 (upto (add_up 3) 17 tt k (omega arith)) }

pub weights_most : {degree : ℕ} {w : Weights} → Full degree w → (w.w0 ≤ 4096) × (w.w1 ≤ 4096) × (w.w2 ≤ 4096) × (w.w3 ≤ 4096)
weights_most {degree} {w} f =
    let l : 16 ^ degree ≤ 4096 = pow-le-pow_right {n = 16} (omega arith) {i = degree} {j = 3} f.most in
    let e = f.total in
    (omega arith, omega arith, omega arith, omega arith)

-- multiplied out: by a test of each k
agree : ℕ → Weights → ℕ → Bool
agree degree w k = eqb w.w0 (weight degree k 0) && (eqb w.w1 (weight degree k 1) && (eqb w.w2 (weight degree k 2) && eqb w.w3 (weight degree k 3)))

agreed : (degree : ℕ) (w : Weights) (k : ℕ) → T (agree degree w k) → w ≡ weights_of degree k
unfolding agree
agreed degree w k t =
    let a = eqb w.w0 (weight degree k 0) in
    let b = eqb w.w1 (weight degree k 1) in
    let c = eqb w.w2 (weight degree k 2) in
    let d = eqb w.w3 (weight degree k 3) in
    let t1 = both_right a (b && (c && d)) t in
    let t2 = both_right b (c && d) t1 in
    let e0 = eqb→eq w.w0 (weight degree k 0) (both_left a (b && (c && d)) t) in
    let e1 = eqb→eq w.w1 (weight degree k 1) (both_left b (c && d) t1) in
    let e2 = eqb→eq w.w2 (weight degree k 2) (both_left c d t2) in
    let e3 = eqb→eq w.w3 (weight degree k 3) (both_right c d t2) in
    λ i. record { w0 = e0 i; w1 = e1 i; w2 = e2 i; w3 = e3 i }

pub quad_weights_lem : (k : ℕ) → k ≤ 16 → quad_weights (16 - k) k ≡ weights_of 2 k
unfolding agree
quad_weights_lem k h = agreed 2 (quad_weights (16 - k) k) k (upto (λ j. agree 2 (quad_weights (16 - j) j) j) 17 tt k (omega arith))

pub cubic_weights_lem : (k : ℕ) → k ≤ 16 → cubic_weights (16 - k) k ≡ weights_of 3 k
unfolding agree
cubic_weights_lem k h = agreed 3 (cubic_weights (16 - k) k) k (upto (λ j. agree 3 (cubic_weights (16 - j) j) j) 17 tt k (omega arith))

pub weights_told : {degree n : ℕ} {w : Weights} (k : ℕ) → k ≤ 16 → Curved n → degree ≡ n → w ≡ weights_of n k → (w ≡ weights_of degree k) × Full degree w
weights_told {degree} {n} {w} k h c e f =
    subst (λ (m : ℕ). (w ≡ weights_of m k) × Full m w) (sym e) (f, subst (λ (v : Weights). Full n v) (sym f) (weights_full c k h))

-- ---- the size of a cut point
-- (z + m) / d rounded down, with m below d, is at most b in size if z is at most d b
rounded : (d m b : ℕ) (z : ℤ) → m < d → Within (d * b) z → Within b (floor_div (z +ℤ pos m) d)
rounded d m b z l h =
    let f = from_floor (var z ⊕ num m) d (omega arith) in
    let k = from_within (var z) h in
    let q = floor_div (z +ℤ pos m) d in
    let above : up q * d < (dn q + b + 1) * d = omega arith in
    let below : dn q * d < (up q + b + 1) * d = omega arith in
    within b (var q) (omega (arith, lt_of_mul-lt-mul_right d above)) (omega (arith, lt_of_mul-lt-mul_right d below))

-- z d / d, with a rest below d, is z
exact : (d m : ℕ) (z : ℤ) → m < d → floor_div (z *ℤ pos d +ℤ pos m) d ≡ z
exact d m z l =
    let f = from_floor (var z ⊗ num d ⊕ num m) d (omega arith) in
    let q = floor_div (z *ℤ pos d +ℤ pos m) d in
    let above : (up q + dn z) * d < (dn q + up z + 1) * d = omega arith in
    let below : (dn q + up z) * d < (up q + dn z + 1) * d = omega arith in
    eq (var q) (var z) (omega (arith, lt_of_mul-lt-mul_right d above, lt_of_mul-lt-mul_right d below))

module _ {b : ℕ} {p q r s : ℤ} (hp : Within b p) (hq : Within b q) (hr : Within b r) (hs : Within b s) where
  summed_size : (w : Weights) (d : ℕ) → w.w0 + w.w1 + w.w2 + w.w3 ≡ d → Within (d * b) (summed w p q r s)
  summed_size w d e =
      record {
        size =
            le_trans
            (within_add
            (within_add (within_add (within_mul hp (within_pos w.w0)) (within_mul hq (within_pos w.w1))) (within_mul hr (within_pos w.w2)))
            (within_mul hs (within_pos w.w3))).size
            (omega (arith, ap (λ (y : ℕ). b * y) e));
      }

  pub summed_most : {degree : ℕ} {w : Weights} → Full degree w → Within (4096 * b) (summed w p q r s)
  summed_most {degree} {w} f =
      let most : 16 ^ degree ≤ 4096 = pow-le-pow_right {n = 16} (omega arith) {i = degree} {j = 3} f.most in
      record { size = le_trans (summed_size w (16 ^ degree) f.total).size (mul-le-mul most (le_refl b)) }

  -- a cut point is no larger than the control points
  pub blended_size : {degree : ℕ} {w : Weights} → Full degree w → Within b (blended degree w p q r s)
  blended_size {degree} {w} f =
      let l : 1 ≤ 16 ^ degree = pow-le-pow_right {n = 16} (omega arith) {i = 0} {j = degree} (omega arith) in
      rounded (16 ^ degree) (16 ^ degree / 2) b (summed w p q r s) (omega arith) (summed_size w (16 ^ degree) f.total)

  pub cut_size : {degree : ℕ} → Curved degree → (k : ℕ) → k ≤ 16 → Within b (cut degree k p q r s)
  unfolding cut
  cut_size c k h = blended_size (weights_full c k h)

-- ---- a cut point lies between the control points
-- (z + m) / d rounded down, with m below d, is on the side of y that z is on of y d
rounded_side : (greater : Bool) (d m : ℕ) (y z : ℤ) → m < d → Beyond greater (y *ℤ pos d) z → Beyond greater y (floor_div (z +ℤ pos m) d)
rounded_side true d m y z l h =
    let f = from_floor (var z ⊕ num m) d (omega arith) in
    let k = from_le (var z) (var y ⊗ num d) h in
    let q = floor_div (z +ℤ pos m) d in
    let under : (up q + dn y) * d < (dn q + up y + 1) * d = omega arith in
    le (var q) (var y) (omega (arith, lt_of_mul-lt-mul_right d under))
rounded_side false d m y z l h =
    let f = from_floor (var z ⊕ num m) d (omega arith) in
    let k = from_le (var y ⊗ num d) (var z) h in
    let q = floor_div (z +ℤ pos m) d in
    let over : (dn q + up y) * d < (up q + dn y + 1) * d = omega arith in
    le (var y) (var q) (omega (arith, lt_of_mul-lt-mul_right d over))

weighed : (a b : ℤ) (w : ℕ) → a ≤ℤ b → (up a + dn b) * w ≤ (up b + dn a) * w
weighed a b w h = mul-le-mul_right w (from_le (var a) (var b) h)

module _ (y p q r s : ℤ) where
  summed_side : (greater : Bool) (w : Weights) (d : ℕ) → w.w0 + w.w1 + w.w2 + w.w3 ≡ d
      → Beyond greater y p → Beyond greater y q → Beyond greater y r → Beyond greater y s → Beyond greater (y *ℤ pos d) (summed w p q r s)
  summed_side true w d e hp hq hr hs =
      le (var p ⊗ num w.w0 ⊕ var q ⊗ num w.w1 ⊕ var r ⊗ num w.w2 ⊕ var s ⊗ num w.w3) (var y ⊗ num d)
      (omega (
        arith,
        weighed p y w.w0 hp,
        weighed q y w.w1 hq,
        weighed r y w.w2 hr,
        weighed s y w.w3 hs,
        ap (λ (n : ℕ). up y * n) e,
        ap (λ (n : ℕ). dn y * n) e,
      ))
  summed_side false w d e hp hq hr hs =
      le (var y ⊗ num d) (var p ⊗ num w.w0 ⊕ var q ⊗ num w.w1 ⊕ var r ⊗ num w.w2 ⊕ var s ⊗ num w.w3)
      (omega (
        arith,
        weighed y p w.w0 hp,
        weighed y q w.w1 hq,
        weighed y r w.w2 hr,
        weighed y s w.w3 hs,
        ap (λ (n : ℕ). up y * n) e,
        ap (λ (n : ℕ). dn y * n) e,
      ))

  pub cut_side : (greater : Bool) {degree : ℕ} → Curved degree → (k : ℕ) → k ≤ 16
      → Beyond greater y p → Beyond greater y q → Beyond greater y r → Beyond greater y s → Beyond greater y (cut degree k p q r s)
  unfolding cut
  cut_side greater {degree} c k h hp hq hr hs =
      let l : 1 ≤ 16 ^ degree = pow-le-pow_right {n = 16} (omega arith) {i = 0} {j = degree} (omega arith) in
      rounded_side greater (16 ^ degree) (16 ^ degree / 2) y (summed (weights_of degree k) p q r s) (omega arith)
      (summed_side greater (weights_of degree k) (16 ^ degree) (weights_full c k h).total hp hq hr hs)

-- ---- the first and the last cut point: one control point has all the weight
none : (z : ℤ) → z *ℤ pos 0 ≡ pos 0
none z = eq (var z ⊗ num 0) (num 0) (omega arith)

pub cut_first : {degree : ℕ} → Curved degree → (p q r s : ℤ) → cut degree 0 p q r s ≡ p
unfolding cut
cut_first quad p q r s = simp (none, +ℤ_idr) (exact 256 128 p (omega arith))
cut_first cubic p q r s = simp (none, +ℤ_idr) (exact 4096 2048 p (omega arith))

-- a quad's end stands in the last place too
pub cut_last : {degree : ℕ} → Curved degree → (p q r s : ℤ) → (degree ≡ 2 → r ≡ s) → cut degree 16 p q r s ≡ s
unfolding cut
cut_last quad p q r s h = simp (none, +ℤ_idl, +ℤ_idr) (exact 256 128 r (omega arith)) ∙ h refl
cut_last cubic p q r s h = simp (none, +ℤ_idl) (exact 4096 2048 s (omega arith))
