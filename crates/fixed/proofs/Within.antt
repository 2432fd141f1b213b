-- Bounds on the size of an integer, put together along a sum of products: `within-add (within-mul h k) l`. The bound is a
-- numeral that antt computes, so that an operation does not overflow is `fits tt (..)` and needs no `omega`.
use mathlib.Core.Path.{◌≡◌, refl, sym, subst}
use Prim.Native.Nat.{ℕ, zero, suc, ◌+◌, ◌*◌, ◌-◌, ◌/◌, ◌%◌, ◌^◌, ◌≤◌, ◌<◌}
use native.Mathlib.Nat.{le_trans, le_refl, add-le-add, mul-le-mul, le_of_eq, lt_of_le_of_lt, div-le_self, mod-le}
use native.Mathlib.Omega.{arith}
use mathlib.Core.Bool.{Bool, true, false, not, cond}
use lib.Dec.{T, leb, ltb, leb→le, ltb→lt, nltb→le}
use lib.IntN.{ℤ, pos, negsuc, neg_ℤ, nat_abs, sub_ℕ, ◌+ℤ◌, ◌-ℤ◌, ◌*ℤ◌}
use lib.Signed.{shr_z, quot_z, rem_z}
use mir.Syntax.{Width}
use mir.Val.{SFits, hbits}

-- -n ≤ z ≤ n
pub record Within (n : ℕ) (z : ℤ) : Type 0 where
  pub size : nat_abs z ≤ n

-- ---- the size of a sum, a product, a negation
pub abs_neg : (z : ℤ) → nat_abs (neg_ℤ z) ≡ nat_abs z
abs_neg (pos zero) = refl
abs_neg (pos (suc n)) = refl
abs_neg (negsuc n) = refl

abs_sub : (a b : ℕ) → nat_abs (sub_ℕ a b) ≤ a + b
abs_sub a b = by (ltb a b) (ltb→lt a b) (nltb→le a b)
  where
    by : (t : Bool) → (T t → a < b) → (T (not t) → b ≤ a) → nat_abs (cond t (negsuc (b - suc a)) (pos (a - b))) ≤ a + b
    by true f g = let h = f tt in omega arith
    by false f g = let h = g tt in omega arith

pub abs_add : (a b : ℤ) → nat_abs (a +ℤ b) ≤ nat_abs a + nat_abs b
abs_add (pos a) (pos b) = le_refl (a + b)
abs_add (pos a) (negsuc b) = abs_sub a (suc b)
abs_add (negsuc a) (pos b) = omega (arith, abs_sub b (suc a))
abs_add (negsuc a) (negsuc b) = omega arith

abs_mul : (a b : ℤ) → nat_abs (a *ℤ b) ≡ nat_abs a * nat_abs b
abs_mul (pos a) (pos b) = refl
abs_mul (pos a) (negsuc b) = abs_neg (pos (a * suc b))
abs_mul (negsuc a) (pos b) = abs_neg (pos (suc a * b))
abs_mul (negsuc a) (negsuc b) = refl

-- ---- the same as bounds
pub within_pos : (n : ℕ) → Within n (pos n)
within_pos n = record { size = le_refl n }

pub within_neg : {n : ℕ} {z : ℤ} → Within n z → Within n (neg_ℤ z)
within_neg {n} {z} h = record { size = subst (λ (k : ℕ). k ≤ n) (sym (abs_neg z)) h.size }

pub within_add : {m n : ℕ} {a b : ℤ} → Within m a → Within n b → Within (m + n) (a +ℤ b)
within_add {m} {n} {a} {b} h k = record { size = le_trans (abs_add a b) (add-le-add h.size k.size) }

pub within_sub : {m n : ℕ} {a b : ℤ} → Within m a → Within n b → Within (m + n) (a -ℤ b)
within_sub h k = within_add h (within_neg k)

pub within_mul : {m n : ℕ} {a b : ℤ} → Within m a → Within n b → Within (m * n) (a *ℤ b)
within_mul {m} {n} {a} {b} h k = record { size = le_trans (le_of_eq (abs_mul a b)) (mul-le-mul h.size k.size) }

pub within_shr : {m : ℕ} {z : ℤ} (d : ℕ) → Within m z → Within m (shr_z z d)
within_shr {m} {z = pos a} d h = record { size = le_trans (div-le_self a d) h.size }
within_shr {m} {z = negsuc a} d h = record { size = omega (arith, div-le_self a d, h.size) }

abs_quot : (z d : ℤ) → nat_abs (quot_z z d) ≤ nat_abs z
abs_quot (pos a) (pos b) = div-le_self a b
abs_quot (pos a) (negsuc b) = le_trans (le_of_eq (abs_neg (pos (a / suc b)))) (div-le_self a (suc b))
abs_quot (negsuc a) (pos b) = le_trans (le_of_eq (abs_neg (pos (suc a / b)))) (div-le_self (suc a) b)
abs_quot (negsuc a) (negsuc b) = div-le_self (suc a) (suc b)

abs_rem : (z d : ℤ) → nat_abs (rem_z z d) ≤ nat_abs z
abs_rem (pos a) d = mod-le a (nat_abs d)
abs_rem (negsuc a) d = le_trans (le_of_eq (abs_neg (pos (suc a % nat_abs d)))) (mod-le (suc a) (nat_abs d))

pub within_quot : {m : ℕ} {z : ℤ} (d : ℤ) → Within m z → Within m (quot_z z d)
within_quot {m} {z} d h = record { size = le_trans (abs_quot z d) h.size }

pub within_rem : {m : ℕ} {z : ℤ} (d : ℤ) → Within m z → Within m (rem_z z d)
within_rem {m} {z} d h = record { size = le_trans (abs_rem z d) h.size }

pub within_widen : {m n : ℕ} {z : ℤ} → T (leb m n) → Within m z → Within n z
within_widen {m} {n} t h = record { size = le_trans h.size (leb→le m n t) }

-- ---- from a type's range, and to one
pub of_fits : {w : Width} {z : ℤ} → SFits w z → Within (2 ^ hbits w) z
of_fits {w} {z = pos n} f = record { size = omega (arith, f.sfits) }
of_fits {w} {z = negsuc n} f = record { size = f.sfits }

pub fits : {w : Width} {n : ℕ} {z : ℤ} → T (ltb n (2 ^ hbits w)) → Within n z → SFits w z
fits {w} {n} {z = pos a} t h = record { sfits = lt_of_le_of_lt h.size (ltb→lt n (2 ^ hbits w) t) }
fits {w} {n} {z = negsuc a} t h = record { sfits = omega (arith, h.size, ltb→lt n (2 ^ hbits w) t) }
