-- The root is what it is said to be: its square is at most n, and the next square is above it; no other number is that. A step of
-- Newton's from any number ends at the root or above it.
use mathlib.Core.Path.{◌≡◌, refl}
use mathlib.Core.Bool.{Bool, true, false, cond}
use Prim.Native.Nat.{ℕ, zero, suc, ◌+◌, ◌-◌, ◌*◌, ◌/◌, ◌≤◌, ◌<◌}
use native.Mathlib.Nat.{le_antisymm, mul-le-mul, div-add-mod, mod-lt}
use native.Mathlib.Omega.{arith}
use borrow.Author.Tests.{leb-true, leb-false, ltb-true, ltb-false}
use lib.Dec.{ltb, leb}
use Rattle.fixed.specs.Roots.{root_up_to, isqrt}

-- ---- squares grow
pub square_mono : {a b : ℕ} → a ≤ b → a * a ≤ b * b
square_mono h = mul-le-mul h h

pub square_order : (a b : ℕ) → a * a < b * b → a < b
square_order a b h = by (ltb a b) refl
  where
    by : (t : Bool) → ltb a b ≡ t → a < b
    by true e = ltb-true a b e
    by false e = absurd (never (square_mono (ltb-false a b e)))
      where
        never : b * b ≤ a * a → ⊥
        never g = omega arith

below_square : (k : ℕ) → k ≤ k * k
below_square zero = omega arith
below_square (suc k) = omega arith

-- ---- the largest k up to m
square_up_to : (m n : ℕ) → root_up_to m n * root_up_to m n ≤ n
square_up_to zero n = omega arith
square_up_to (suc m) n = by (leb (suc m * suc m) n) refl (square_up_to m n)
  where
    by : (t : Bool) → leb (suc m * suc m) n ≡ t → root_up_to m n * root_up_to m n ≤ n → cond t (suc m) (root_up_to m n) * cond t (suc m) (root_up_to m n) ≤ n
    by true e h = leb-true _ _ e
    by false e h = h

largest_up_to : (m n k : ℕ) → k ≤ m → k * k ≤ n → k ≤ root_up_to m n
largest_up_to zero n k h l = h
largest_up_to (suc m) n k h l = by (leb (suc m * suc m) n) refl (λ g. largest_up_to m n k g l)
  where
    by : (t : Bool) → leb (suc m * suc m) n ≡ t → (k ≤ m → k ≤ root_up_to m n) → k ≤ cond t (suc m) (root_up_to m n)
    by true e f = h
    by false e f = f (let g = square_order k (suc m) (omega (arith, leb-false (suc m * suc m) n e)) in omega arith)

-- ---- the root
pub square_at_most : (n : ℕ) → isqrt n * isqrt n ≤ n
unfolding isqrt
square_at_most n = square_up_to n n

pub largest : (n k : ℕ) → k * k ≤ n → k ≤ isqrt n
unfolding isqrt
largest n k h = largest_up_to n n k (omega (arith, below_square k)) h

pub next_above : (n : ℕ) → n < (isqrt n + 1) * (isqrt n + 1)
next_above n = by (ltb n ((isqrt n + 1) * (isqrt n + 1))) refl
  where
    by : (t : Bool) → ltb n ((isqrt n + 1) * (isqrt n + 1)) ≡ t → n < (isqrt n + 1) * (isqrt n + 1)
    by true e = ltb-true _ _ e
    by false e = absurd (let h = largest n (isqrt n + 1) (ltb-false _ _ e) in omega arith)

-- no other number is it
pub only_root : (n q : ℕ) → q * q ≤ n → n < (q + 1) * (q + 1) → q ≡ isqrt n
only_root n q h l =
    let g = square_order (isqrt n) (q + 1) (omega (arith, square_at_most n)) in
    le_antisymm (largest n q h) (omega arith)

-- a number that is not below the root, and whose square is not above n
pub from_above : (n q : ℕ) → isqrt n ≤ q → q * q ≤ n → q ≡ isqrt n
from_above n q h l = le_antisymm (largest n q l) h

pub root_small : (n : ℕ) → n < 1152921504606846976 → isqrt n < 1073741824
root_small n h = square_order (isqrt n) 1073741824 (omega (arith, square_at_most n))

-- ---- Newton
-- four times a product is at most the square of the sum
means : (a b : ℕ) → 4 * (a * b) ≤ (a + b) * (a + b)
means a b = by (leb a b) refl
  where
    more : (a d : ℕ) → 4 * (a * (a + d)) ≤ (a + (a + d)) * (a + (a + d))
    more a d = omega arith

    by : (t : Bool) → leb a b ≡ t → 4 * (a * b) ≤ (a + b) * (a + b)
    by true e = let h = leb-true a b e in let d : b ≡ a + (b - a) = omega arith in rw d (more a (b - a))
    by false e = let h = leb-false a b e in let d : a ≡ b + (a - b) = omega arith in rw d (let m = more b (a - b) in omega arith)

pub newton_above : (n g : ℕ) → 0 < g → isqrt n ≤ (g + n / g) / 2
newton_above n g h =
    let k = isqrt n in
    let low = square_at_most n in
    let whole = div-add-mod n g in
    let rest = mod-lt n h in
    let m = means g (n / g + 1) in
    let l = square_order (2 * k) (g + (n / g + 1)) (omega arith) in
    omega arith
