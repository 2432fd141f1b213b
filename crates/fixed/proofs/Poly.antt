-- An expression of integers as a difference of two natural numbers, so that `omega` proves an equation or an order of two expressions: it
-- multiplies products out. A `Poly` is put together along the expression: `var z`, `num n`, `◌⊕◌`, `◌⊖◌`, `◌⊗◌`, `neg`. So
-- `eq (var a ⊗ (var b ⊕ num 1)) (var a ⊗ var b ⊕ var a) (omega arith) : a *ℤ (b +ℤ pos 1) ≡ a *ℤ b +ℤ a`.
use mathlib.Core.Path.{◌≡◌, refl, ap}
use Prim.Native.Nat.{ℕ, zero, suc, ◌+◌, ◌*◌, ◌-◌, ◌^◌, ◌≤◌, ◌<◌}
use native.Mathlib.Omega.{arith}
use mathlib.Core.Bool.{Bool, true, false, not, cond}
use lib.Dec.{T, ltb, leb→le, le→leb, ltb→lt, lt→ltb, nltb→le}
use lib.IntN.{ℤ, pos, negsuc, neg_ℤ, nat_abs, sub_ℕ, ◌+ℤ◌, ◌*ℤ◌}
use lib.Signed.{mag, le_z, lt_z, ◌≤ℤ◌, ◌<ℤ◌}
use mir.Syntax.{Width}
use mir.Val.{SFits, hbits}
use Rattle.fixed.proofs.Within.{Within}

-- z is up z - dn z, and one of them is 0
abbrev pub up : ℤ → ℕ
up (pos n) = n
up (negsuc n) = 0

abbrev pub dn : ℤ → ℕ
dn (pos n) = 0
dn (negsuc n) = suc n

pub record Poly : Type 0 where
  pub int : ℤ
  pub p : ℕ
  pub n : ℕ
  pub law : up int + n ≡ dn int + p

-- ---- the laws of the operations
sub_law : (a b : ℕ) → up (sub_ℕ a b) + b ≡ dn (sub_ℕ a b) + a
sub_law a b = by (ltb a b) (ltb→lt a b) (nltb→le a b)
  where
    by : (t : Bool) → (T t → a < b) → (T (not t) → b ≤ a)
        → up (cond t (negsuc (b - suc a)) (pos (a - b))) + b ≡ dn (cond t (negsuc (b - suc a)) (pos (a - b))) + a
    by true f g = let h = f tt in omega arith
    by false f g = let h = g tt in omega arith

add_law : (a b : ℤ) → up (a +ℤ b) + (dn a + dn b) ≡ dn (a +ℤ b) + (up a + up b)
add_law (pos a) (pos b) = omega arith
add_law (pos a) (negsuc b) = omega (arith, sub_law a (suc b))
add_law (negsuc a) (pos b) = omega (arith, sub_law b (suc a))
add_law (negsuc a) (negsuc b) = omega arith

neg_up : (z : ℤ) → up (neg_ℤ z) ≡ dn z
neg_up (pos zero) = refl
neg_up (pos (suc n)) = refl
neg_up (negsuc n) = refl

neg_dn : (z : ℤ) → dn (neg_ℤ z) ≡ up z
neg_dn (pos zero) = refl
neg_dn (pos (suc n)) = refl
neg_dn (negsuc n) = refl

mul_law : (a b : ℤ) → up (a *ℤ b) + (up a * dn b + dn a * up b) ≡ dn (a *ℤ b) + (up a * up b + dn a * dn b)
mul_law (pos a) (pos b) = omega arith
mul_law (pos a) (negsuc b) = omega (arith, neg_up (pos (a * suc b)), neg_dn (pos (a * suc b)))
mul_law (negsuc a) (pos b) = omega (arith, neg_up (pos (suc a * b)), neg_dn (pos (suc a * b)))
mul_law (negsuc a) (negsuc b) = omega arith

-- ---- expressions
abbrev pub var : ℤ → Poly
var z = record { int = z; p = up z; n = dn z; law = omega arith }

abbrev pub num : ℕ → Poly
num k = record { int = pos k; p = k; n = 0; law = omega arith }

infixl 6 ◌⊕◌ ◌⊖◌
infixl 7 ◌⊗◌
pub plus : (r s : Poly) → up (r.int +ℤ s.int) + (r.n + s.n) ≡ dn (r.int +ℤ s.int) + (r.p + s.p)
plus r s = omega (arith, add_law r.int s.int, r.law, s.law)

abbrev pub ◌⊕◌ : Poly → Poly → Poly
r ⊕ s = record { int = r.int +ℤ s.int; p = r.p + s.p; n = r.n + s.n; law = plus r s }

pub minus : (r : Poly) → up (neg_ℤ r.int) + r.p ≡ dn (neg_ℤ r.int) + r.n
minus r = omega (arith, neg_up r.int, neg_dn r.int, r.law)

abbrev pub neg : Poly → Poly
neg r = record { int = neg_ℤ r.int; p = r.n; n = r.p; law = minus r }

abbrev pub ◌⊖◌ : Poly → Poly → Poly
r ⊖ s = r ⊕ neg s

pub times : (r s : Poly) → up (r.int *ℤ s.int) + (r.p * s.n + r.n * s.p) ≡ dn (r.int *ℤ s.int) + (r.p * s.p + r.n * s.n)
times r s =
    core (up (r.int *ℤ s.int)) (dn (r.int *ℤ s.int)) (up r.int) (dn r.int) (up s.int) (dn s.int) r.p r.n s.p s.n
    (mul_law r.int s.int) r.law s.law
  where
    core : (U D a b c d p n q m : ℕ) → U + (a * d + b * c) ≡ D + (a * c + b * d) → a + n ≡ b + p → c + m ≡ d + q → U + (p * m + n * q) ≡ D + (p * q + n * m)
    core U D a b c d p n q m h e f =
        omega (arith, ap (λ (x : ℕ). x * c) e, ap (λ (x : ℕ). x * d) e, ap (λ (x : ℕ). p * x) f, ap (λ (x : ℕ). n * x) f)

abbrev pub ◌⊗◌ : Poly → Poly → Poly
r ⊗ s = record { int = r.int *ℤ s.int; p = r.p * s.p + r.n * s.n; n = r.p * s.n + r.n * s.p; law = times r s }

-- ---- what is shown of expressions
same : (a b : ℤ) → up a + dn b ≡ up b + dn a → a ≡ b
same (pos a) (pos b) e = ap pos (omega arith)
same (pos a) (negsuc b) e = absurd (omega arith)
same (negsuc a) (pos b) e = absurd (omega arith)
same (negsuc a) (negsuc b) e = ap negsuc (omega arith)

le_of : (a b : ℤ) → up a + dn b ≤ up b + dn a → T (le_z a b)
le_of (pos a) (pos b) h = le→leb a b (omega arith)
le_of (pos a) (negsuc b) h = absurd (omega arith)
le_of (negsuc a) (pos b) h = tt
le_of (negsuc a) (negsuc b) h = le→leb b a (omega arith)

of_le : (a b : ℤ) → T (le_z a b) → up a + dn b ≤ up b + dn a
of_le (pos a) (pos b) h = omega (arith, leb→le a b h)
of_le (pos a) (negsuc b) h = absurd h
of_le (negsuc a) (pos b) h = omega arith
of_le (negsuc a) (negsuc b) h = omega (arith, leb→le b a h)

lt_of : (a b : ℤ) → up a + dn b < up b + dn a → T (lt_z a b)
lt_of (pos a) (pos b) h = lt→ltb a b (omega arith)
lt_of (pos a) (negsuc b) h = absurd (omega arith)
lt_of (negsuc a) (pos b) h = tt
lt_of (negsuc a) (negsuc b) h = lt→ltb b a (omega arith)

of_lt : (a b : ℤ) → T (lt_z a b) → up a + dn b < up b + dn a
of_lt (pos a) (pos b) h = omega (arith, ltb→lt a b h)
of_lt (pos a) (negsuc b) h = absurd h
of_lt (negsuc a) (pos b) h = omega arith
of_lt (negsuc a) (negsuc b) h = omega (arith, ltb→lt b a h)

pub eq : (r s : Poly) → r.p + s.n ≡ s.p + r.n → r.int ≡ s.int
eq r s h = same r.int s.int (omega (arith, r.law, s.law))

pub le : (r s : Poly) → r.p + s.n ≤ s.p + r.n → r.int ≤ℤ s.int
le r s h = record { le = le_of r.int s.int (omega (arith, r.law, s.law)) }

pub lt : (r s : Poly) → r.p + s.n < s.p + r.n → r.int <ℤ s.int
lt r s h = record { lt = lt_of r.int s.int (omega (arith, r.law, s.law)) }

-- and what is known of them, for `omega`'s list
pub from_eq : (r s : Poly) → r.int ≡ s.int → r.p + s.n ≡ s.p + r.n
from_eq r s e = omega (arith, r.law, s.law, ap up e, ap dn e)

pub from_le : (r s : Poly) → r.int ≤ℤ s.int → r.p + s.n ≤ s.p + r.n
from_le r s h = omega (arith, r.law, s.law, of_le r.int s.int h.le)

pub from_lt : (r s : Poly) → r.int <ℤ s.int → r.p + s.n < s.p + r.n
from_lt r s h = omega (arith, r.law, s.law, of_lt r.int s.int h.lt)

-- a size
within_of : (b : ℕ) (z : ℤ) → up z ≤ dn z + b → dn z ≤ up z + b → nat_abs z ≤ b
within_of b (pos n) h k = omega arith
within_of b (negsuc n) h k = omega arith

pub within : (b : ℕ) (r : Poly) → r.p ≤ r.n + b → r.n ≤ r.p + b → Within b r.int
within b r h k = record { size = within_of b r.int (omega (arith, r.law)) (omega (arith, r.law)) }

of_within : (b : ℕ) (z : ℤ) → nat_abs z ≤ b → (up z ≤ dn z + b) × (dn z ≤ up z + b)
of_within b (pos n) h = omega arith
of_within b (negsuc n) h = omega arith

pub from_within : {b : ℕ} (r : Poly) → Within b r.int → (r.p ≤ r.n + b) × (r.n ≤ r.p + b)
from_within {b} r h = omega (arith, r.law, of_within b r.int h.size)

-- the range of a type
fits_of : (w : Width) (z : ℤ) → up z < dn z + 2 ^ hbits w → dn z ≤ up z + 2 ^ hbits w → mag z < 2 ^ hbits w
fits_of w (pos n) h k = omega arith
fits_of w (negsuc n) h k = omega arith

pub fits : (w : Width) (r : Poly) → r.p < r.n + 2 ^ hbits w → r.n ≤ r.p + 2 ^ hbits w → SFits w r.int
fits w r h k = record { sfits = fits_of w r.int (omega (arith, r.law)) (omega (arith, r.law)) }
