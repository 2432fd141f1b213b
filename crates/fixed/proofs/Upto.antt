-- A rule of the numbers below n, proved by one test that antt computes, one number after the other: `upto f 256 tt k h`.
use mathlib.Core.Path.{◌≡◌, sym, subst}
use mathlib.Core.Bool.{Bool, true, ◌&&◌}
use Prim.Native.Nat.{ℕ, zero, suc, ◌<◌}
use native.Mathlib.Decide.{ℕ_discrete}
use native.Mathlib.Omega.{arith}
use lib.Dec.{T}
use Rattle.fixed.proofs.Tests.{both_left, both_right}

-- f passes at each number below n
abbrev pub all : (ℕ → Bool) → ℕ → Bool
all f zero = true
all f (suc n) = f n && all f n

last_or : (f : ℕ → Bool) (n k : ℕ) → k < suc n → T (f n) → (k < n → T (f k)) → Dec (k ≡ n) → T (f k)
last_or f n k h t r (yes e) = subst (λ (m : ℕ). T (f m)) (sym e) t
last_or f n k h t r (no d) = r (omega arith)

pub upto : (f : ℕ → Bool) (n : ℕ) → T (all f n) → (k : ℕ) → k < n → T (f k)
upto f zero t k h = absurd (omega arith)
upto f (suc n) t k h = last_or f n k h (both_left (f n) (all f n) t) (λ l. upto f n (both_right (f n) (all f n) t) k l) (ℕ_discrete k n)
