-- A signed local holds bits, and a test of two says something of the numbers read back from the bits. Since the numbers fit, that is the
-- test of the numbers.
use mathlib.Core.Path.{◌≡◌, sym, ap, ◌∙◌}
use mathlib.Core.Bool.{Bool}
use Prim.Native.Nat.{ℕ, ◌≤◌, ◌<◌, ◌^◌, zero-le}
use native.Mathlib.Nat.{lt_of_le_of_lt}
use native.Mathlib.Omega.{arith}
use lib.Dec.{T, ltb}
use lib.IntN.{ℤ, pos, negsuc, ◌-ℤ◌, neg_ℤ, nat_abs, +ℤ_idl}
use lib.Signed.{mag, le_z}
use mir.Syntax.{Width}
use mir.Val.{to_z, of_z, SFits, hbits}
use mir.Facts.{to_z-of_z, to_z_pos}
use Rattle.fixed.proofs.Within.{fits}

pub le_back : (w : Width) (a b : ℤ) {t : Bool} → SFits w a → SFits w b → le_z (to_z w (of_z w a)) (to_z w (of_z w b)) ≡ t → le_z a b ≡ t
le_back w a b p q e = rw (to_z-of_z p, to_z-of_z q) at e

-- of a call's signed result: `back w32 c.f.result c.f.ok`
pub back : (w : Width) (z : ℤ) → mag z < 2 ^ hbits w → to_z w (of_z w z) ≡ z
back w z h = to_z-of_z {w = w} (record { sfits = h })

-- of a number whose size is known: `clean w32 8388608 z tt h`
pub clean : (w : Width) (n : ℕ) (z : ℤ) → T (ltb n (2 ^ hbits w)) → nat_abs z ≤ n → to_z w (of_z w z) ≡ z
clean w n z t h = to_z-of_z {w = w} (fits {w = w} {n = n} {z = z} t (record { size = h }))

mag_abs : (z : ℤ) → mag z ≤ nat_abs z
mag_abs (pos n) = omega arith
mag_abs (negsuc n) = omega arith

-- a number of small size fits
pub abs_fits : (w : Width) (z : ℤ) (n : ℕ) → nat_abs z ≤ n → n < 2 ^ hbits w → SFits w z
abs_fits w z n h l = record { sfits = omega (arith, mag_abs z) }

-- a signed number is compared with 0 by its bits
pub zero_yes : (w : Width) (z : ℤ) → mag z < 2 ^ hbits w → of_z w z ≡ 0 → nat_abs z ≡ 0
zero_yes w z h e = ap nat_abs (sym (back w z h) ∙ ap (to_z w) e ∙ to_z_pos w (lt_of_le_of_lt zero-le h))

pub zero_no : (w : Width) (z : ℤ) → (of_z w z ≡ 0 → ⊥) → nat_abs z ≡ 0 → ⊥
zero_no w (pos n) h e = h e
zero_no w (negsuc n) h e = omega (arith, e)

-- 0 - x, of a natural x
pub neg_is : (x : ℕ) → pos 0 -ℤ pos x ≡ neg_ℤ (pos x)
neg_is x = +ℤ_idl (neg_ℤ (pos x))
