-- The value of a bit pattern of 32 bits by its fields, and what its size is at most.
use mathlib.Core.Path.{◌≡◌, refl, sym, ap, ap₂, ◌∙◌, subst}
use mathlib.Core.Bool.{Bool, true, false, not, false≢true}
use Prim.Native.Nat.{ℕ, suc, ◌+◌, ◌*◌, ◌-◌, ◌/◌, ◌%◌, ◌^◌, ◌≤◌, ◌<◌}
use native.Mathlib.Nat.{le_trans, le_of_eq, mul-le-mul, mul-le-mul_right, le_of_mul-le-mul_right, mul-lt-mul_of_pos_right}
use native.Mathlib.Nat.{lt_of_lt_of_le, mul_right_comm, lt_of_mul-lt-mul_right, eq_of_mul-eq-mul_right, mul_assoc, mul_comm, mul-lt-mul_of_pos_left}
use native.Mathlib.Decide.{ℕ_discrete}
use native.Mathlib.Omega.{arith}
use borrow.Author.Tests.{le-leb, lt-leb, le-ltb, lt-ltb, ne_eqb, leb-true, leb-false, ltb-true, ltb-false}
use lib.Dec.{leb, ltb, lit≤, lit<}
use lib.Pow.{pow-add, pow_mono, pow_pos}
use lib.Ieee.{Float, nan, inf, fin, up, down, binary32, of_fields, of_bits, nan_bits, is_nan}
use lib.Ieee.Bits.{nan_bits_is, nan_bits_above}
use lib.Ieee.Fits.{down_pos}
use lib.Ieee.Exact.{HasValue, odd_sign}
use Rattle.fixed.specs.Floats.{scaled, nearest_of, at_most}
use Rattle.fixed.specs.Patterns.{sign_bit, exponent_bit, size_bits, infinity_pattern, power_pattern}
use Rattle.fixed.proofs.Nearest.{nearest_same}

-- ---- the value, where the exponent's field is 0 and where it is not
zero_field : (b : Bool) (t : ℕ) → HasValue (of_fields binary32 b 0 t) b (t * 2 ^ 0) (2 ^ 149)
unfolding of_fields
zero_field b t = odd_sign 24 b t 0 149

more_field : (b : Bool) (x t : ℕ) → suc x < 255 → HasValue (of_fields binary32 b (suc x) t) b ((8388608 + t) * 2 ^ x) (2 ^ 149)
unfolding of_fields
more_field b x t h =
    rw (ne_eqb (suc x) 255 (λ e. absurd (not_both (suc x) h e)))
    (odd_sign 24 b (8388608 + t) x 149)
  where
    not_both : (y : ℕ) → y < 255 → y ≡ 255 → ⊥
    not_both y h e = omega arith

pub bits_zero : (n : ℕ) → size_bits n / exponent_bit ≡ 0 → HasValue (of_bits binary32 n) (leb sign_bit n) (n % exponent_bit * 2 ^ 0) (2 ^ 149)
unfolding of_bits
bits_zero n e =
    subst (λ (x : ℕ). HasValue (of_fields binary32 (leb sign_bit n) x (n % exponent_bit)) (leb sign_bit n) (n % exponent_bit * 2 ^ 0) (2 ^ 149)) (sym e)
    (zero_field (leb sign_bit n) (n % exponent_bit))

pub bits_more : (n x : ℕ) → size_bits n / exponent_bit ≡ suc x → suc x < 255
    → HasValue (of_bits binary32 n) (leb sign_bit n) ((8388608 + n % exponent_bit) * 2 ^ x) (2 ^ 149)
unfolding of_bits
bits_more n x e h =
    subst (λ (y : ℕ). HasValue (of_fields binary32 (leb sign_bit n) y (n % exponent_bit)) (leb sign_bit n) ((8388608 + n % exponent_bit) * 2 ^ x)
    (2 ^ 149)) (sym e)
    (more_field (leb sign_bit n) x (n % exponent_bit) h)

pub bits_infinite : (n : ℕ) → size_bits n ≡ infinity_pattern → of_bits binary32 n ≡ inf (leb sign_bit n)
unfolding of_bits of_fields
bits_infinite n e = ap₂ (of_fields binary32 (leb sign_bit n)) (ones n e) (none n e)
  where
    ones : (n : ℕ) → size_bits n ≡ infinity_pattern → size_bits n / exponent_bit ≡ 255
    ones n e = omega arith

    none : (n : ℕ) → size_bits n ≡ infinity_pattern → n % exponent_bit ≡ 0
    none n e = omega arith

-- a NaN's pattern is above that of infinity
nan_above : (n : ℕ) → is_nan (of_bits binary32 n) ≡ ltb infinity_pattern (size_bits n)
nan_above n = sym (nan_bits_is binary32 n) ∙ nan_bits_above binary32 n

is_nan_lem : (v : Float) → is_nan v ≡ true → v ≡ nan
unfolding is_nan
is_nan_lem nan h = refl
is_nan_lem (inf s) h = absurd (false≢true h)
is_nan_lem (fin s m e) h = absurd (false≢true h)

nan_pattern : (n : ℕ) → infinity_pattern < size_bits n → of_bits binary32 n ≡ nan
nan_pattern n h = is_nan_lem (of_bits binary32 n) (nan_above n ∙ lt-ltb infinity_pattern (size_bits n) h)

pub number_pattern : (n : ℕ) → leb (size_bits n) infinity_pattern ≡ not (is_nan (of_bits binary32 n))
number_pattern n = by (leb (size_bits n) infinity_pattern) refl
  where
    by : (t : Bool) → leb (size_bits n) infinity_pattern ≡ t → t ≡ not (is_nan (of_bits binary32 n))
    by true e = rw (nan_above n, le-ltb infinity_pattern (size_bits n) (leb-true (size_bits n) infinity_pattern e))
    by false e = rw (nan_above n, lt-ltb infinity_pattern (size_bits n) (leb-false (size_bits n) infinity_pattern e))

pub nan_read : (n : ℕ) → nan_bits binary32 n ≡ true → of_bits binary32 n ≡ nan
nan_read n h = nan_pattern n (ltb-true _ _ (sym (nan_bits_above binary32 n) ∙ h))

-- ---- the value, scaled: x is M A / L, and B A is L. L is too large a numeral for `omega`, so it is a variable here
cross : (k x D M A B L : ℕ) → 0 < L → x * L ≡ M * A * D → B * A ≡ L → k * x * B ≡ k * M * D
cross k x D M A B L h e f =
    eq_of_mul-eq-mul_right L h (k * x * B) (k * M * D)
    (omega (arith, ap (λ (y : ℕ). k * B * y) e, ap (λ (y : ℕ). k * M * D * y) f))

-- the value M 2^j / 2^149 in kths is k M / 2^s, where s + j is 149
pub scaled_value : (k : ℕ) (v : Float) (b : Bool) (M j s : ℕ) → HasValue v b (M * 2 ^ j) (2 ^ 149) → s + j ≡ 149 → scaled k v ≡ nearest_of b (k * M) (2 ^ s)
scaled_value k nan b M j s v e = absurd v
scaled_value k (inf t) b M j s v e = absurd v
scaled_value k (fin t m d) b M j s v e =
    ap (λ (x : Bool). nearest_of x (k * (m * up d)) (down d)) v.0
    ∙ nearest_same b (k * (m * up d)) (down d) (k * M) (2 ^ s) (down_pos d) (pow_pos s)
    (cross k (m * up d) (down d) M (2 ^ j) (2 ^ s) (2 ^ 149) (pow_pos 149) v.1 (sym (pow-add 2 s j) ∙ ap (λ (y : ℕ). 2 ^ y) e))

-- ---- the size, by the fraction a / L that v equals
within_limit : (k : ℕ) (v : Float) (b : Bool) (a L : ℕ) → 0 < L → HasValue v b a L → a ≤ k * L → at_most k v ≡ true
within_limit k nan b a L hL v h = absurd v
within_limit k (inf t) b a L hL v h = absurd v
within_limit k (fin s m e) b a L hL v h =
    le-leb (m * up e) (k * down e)
    (le_of_mul-le-mul_right {k = L} (le_trans (le_of_eq v.1) (le_trans (mul-le-mul_right (down e) h) (le_of_eq (mul_right_comm k L (down e))))) hL)

above_limit : (k : ℕ) (v : Float) (b : Bool) (a L : ℕ) → HasValue v b a L → k * L < a → at_most k v ≡ false
above_limit k nan b a L v h = absurd v
above_limit k (inf t) b a L v h = absurd v
above_limit k (fin s m e) b a L v h =
    lt-leb (m * up e) (k * down e)
    (lt_of_mul-lt-mul_right L (subst (λ (x : ℕ). k * down e * L < x) (sym v.1)
    (subst (λ (x : ℕ). x < a * down e) (mul_right_comm k L (down e)) (mul-lt-mul_of_pos_right h (down_pos e)))))

-- ---- the size, by the pattern without its sign: that of 2^g is (127 + g) 2^23
power_of : (c i g L : ℕ) → c * 2 ^ i ≡ L → c * 2 ^ (i + g) ≡ 2 ^ g * L
power_of c i g L e = ap (λ (y : ℕ). c * y) (pow-add 2 i g) ∙ sym (mul_assoc c (2 ^ i) (2 ^ g)) ∙ ap (λ (y : ℕ). y * 2 ^ g) e ∙ mul_comm L (2 ^ g)

module _ (n g : ℕ) where
  abbrev v : Float
  v = of_bits binary32 n

  abbrev x : ℕ
  x = size_bits n / exponent_bit

  abbrev t : ℕ
  t = n % exponent_bit

  -- the exponent's field is below that of the limit, at it, above it: a is the number over 2^149 that v's size is
  field : (a : ℕ) → HasValue v (leb sign_bit n) a (2 ^ 149) → a ≤ 2 ^ g * 2 ^ 149 → at_most (2 ^ g) v ≡ true
  field a = within_limit (2 ^ g) v (leb sign_bit n) a (2 ^ 149) (pow_pos 149)

  past : (a : ℕ) → HasValue v (leb sign_bit n) a (2 ^ 149) → 2 ^ g * 2 ^ 149 < a → at_most (2 ^ g) v ≡ false
  past a = above_limit (2 ^ g) v (leb sign_bit n) a (2 ^ 149)

  pattern_within : g ≤ 15 → size_bits n ≤ power_pattern g → at_most (2 ^ g) v ≡ true
  pattern_within l h = by (ℕ_discrete x 0) (ℕ_discrete x (127 + g))
    where
      by : Dec (x ≡ 0) → Dec (x ≡ 127 + g) → at_most (2 ^ g) v ≡ true
      by (yes e) d =
          field (t * 2 ^ 0) (bits_zero n e)
          (le_trans (mul-le-mul_right {n = 8388608} (2 ^ 0) (omega arith)) (le_trans (lit≤ tt) (mul-le-mul_right (2 ^ 149) (pow_pos g))))
      by (no f) (yes e) =
          field ((8388608 + t) * 2 ^ (126 + g)) (bits_more n (126 + g) (omega arith) (omega arith))
          (le_trans (mul-le-mul_right {n = 8388608} (2 ^ (126 + g)) (omega arith)) (le_of_eq (power_of 8388608 126 g (2 ^ 149) refl)))
      by (no f) (no d) =
          field ((8388608 + t) * 2 ^ (x - 1)) (bits_more n (x - 1) (omega arith) (omega arith))
          (le_trans (mul-le-mul {n₂ = 16777216} {m₂ = 2 ^ (125 + g)} (omega arith) (pow_mono {i = x - 1} {j = 125 + g} (omega arith)))
          (le_of_eq (power_of 16777216 125 g (2 ^ 149) refl)))

  pattern_above : power_pattern g < size_bits n → size_bits n < infinity_pattern → at_most (2 ^ g) v ≡ false
  pattern_above h l = by (ℕ_discrete x (127 + g))
    where
      by : Dec (x ≡ 127 + g) → at_most (2 ^ g) v ≡ false
      by (yes e) =
          past ((8388608 + t) * 2 ^ (126 + g)) (bits_more n (126 + g) (omega arith) (omega arith))
          (subst (λ (y : ℕ). y < (8388608 + t) * 2 ^ (126 + g)) (power_of 8388608 126 g (2 ^ 149) refl)
          (mul-lt-mul_of_pos_right (omega arith) (pow_pos (126 + g))))
      by (no d) =
          past ((8388608 + t) * 2 ^ (x - 1)) (bits_more n (x - 1) (omega arith) (omega arith))
          (lt_of_lt_of_le (mul-lt-mul_of_pos_left (lit< {m = 2 ^ 149} {n = 2 ^ 150} tt) (pow_pos g))
          (le_trans (le_of_eq (sym (power_of 8388608 127 g (2 ^ 150) refl)))
          (mul-le-mul {n₁ = 8388608} {m₁ = 2 ^ (127 + g)} (omega arith) (pow_mono {i = 127 + g} {j = x - 1} (omega arith)))))

  -- ---- a test of the pattern is a test of the size
  pub size_pattern : g ≤ 15 → leb (size_bits n) (power_pattern g) ≡ at_most (2 ^ g) v
  size_pattern small = by (leb (size_bits n) (power_pattern g)) refl
    where
      above : power_pattern g < size_bits n → Dec (size_bits n ≡ infinity_pattern) → (t : Bool) → ltb (size_bits n) infinity_pattern ≡ t
          → at_most (2 ^ g) v ≡ false
      above h (yes e) t q = ap (at_most (2 ^ g)) (bits_infinite n e)
      above h (no f) true q = pattern_above h (ltb-true _ _ q)
      above h (no f) false q =
          let l : infinity_pattern < size_bits n = omega (arith, ltb-false (size_bits n) infinity_pattern q) in
          ap (at_most (2 ^ g)) (nan_pattern n l)

      by : (t : Bool) → leb (size_bits n) (power_pattern g) ≡ t → t ≡ at_most (2 ^ g) v
      by true e = sym (pattern_within small (leb-true _ _ e))
      by false e = sym (above (leb-false _ _ e) (ℕ_discrete (size_bits n) infinity_pattern) (ltb (size_bits n) infinity_pattern) refl)
