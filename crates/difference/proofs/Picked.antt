-- The numbers that pass a test, in rising order.
use mathlib.Core.Path.{◌≡◌, refl, sym, ap, ◌∙◌}
use mathlib.Core.Bool.{Bool, true, false}
use mathlib.Core.List.Memᴰ
use mathlib.Core.List.{[], ◌++◌, Memᴰ}
use mathlib.Core.Logic.{⊎_elim}
use Prim.Native.Nat.{ℕ, zero, suc, ◌+◌, ◌≤◌, ◌<◌}
use native.Mathlib.Nat.{eq-or-lt_of_le}
use native.Mathlib.Omega.{arith}
use Rattle.rect.proofs.Laws.{either}
use Rattle.difference.specs.Compare.{picked, Rising}

pub picked_more : (t : ℕ → Bool) (m i j n : ℕ) → j ≡ i + m → picked t i (m + n) ≡ picked t i m ++ picked t j n
picked_more t zero i j n e =
    let a : j ≡ i = omega arith in
    let b : 0 + n ≡ n = omega arith in
    rw (a, b)
picked_more t (suc m) i j n e =
    let r = picked_more t m (suc i) j n (omega arith) in
    let b : suc m + n ≡ suc (m + n) = omega arith in
    rw b (either (t i) (λ q. rw (q, r)) (λ q. rw (q, r)))

pub picked_same : (s t : ℕ → Bool) (i n : ℕ) → ((k : ℕ) → i ≤ k → k < i + n → s k ≡ t k) → picked s i n ≡ picked t i n
picked_same s t i zero h = refl
picked_same s t i (suc n) h = rw (h i (omega arith) (omega arith), picked_same s t (suc i) n (λ k l m. h k (omega arith) (omega arith)))

pub picked_none : (t : ℕ → Bool) (i n : ℕ) → ((k : ℕ) → i ≤ k → k < i + n → t k ≡ false) → picked t i n ≡ []
picked_none t i zero h = refl
picked_none t i (suc n) h = rw (h i (omega arith) (omega arith)) (picked_none t (suc i) n (λ k l m. h k (omega arith) (omega arith)))

-- ---- which numbers are picked: those of the range that pass, each once, in rising order
pub picked_has : (t : ℕ → Bool) (i n k : ℕ) → i ≤ k → k < i + n → t k ≡ true → Memᴰ k (picked t i n)
picked_has t i zero k l m q = absurd (omega arith)
picked_has t i (suc n) k l m q =
    ⊎_elim
    (λ e. let p : t i ≡ true = ap t e ∙ q in rw p (Memᴰ.head (sym e)))
    (λ o.
    let r = picked_has t (suc i) n k o (omega arith) q in
    either (t i) (λ p. rw p (Memᴰ.tail r)) (λ p. rw p r))
    (eq-or-lt_of_le l)

pub record Picked (t : ℕ → Bool) (i n k : ℕ) : Type 0 where
  pub from : i ≤ k
  pub below : k < i + n
  pub passed : t k ≡ true

pub picked_only : (t : ℕ → Bool) (i n k : ℕ) → Memᴰ k (picked t i n) → Picked t i n k
picked_only t i zero k m = absurd (Memᴰ.not-nil m)
picked_only t i (suc n) k m =
    either (t i)
    (λ p.
    ⊎_elim (λ e. record { from = omega arith; below = omega arith; passed = ap t e ∙ p }) (λ o. later (picked_only t (suc i) n k o))
    (Memᴰ.cases_cons (rw p at m)))
    (λ p. later (picked_only t (suc i) n k (rw p at m)))
  where
    later : Picked t (suc i) n k → Picked t i (suc n) k
    later r = record { from = omega (arith, r.from); below = omega (arith, r.below); passed = r.passed }

pub picked_rises : (t : ℕ → Bool) (i n : ℕ) → Rising (picked t i n)
picked_rises t i zero = tt
picked_rises t i (suc n) =
    let r = picked_rises t (suc i) n in
    either (t i) (λ p. rw p ((λ k m. (picked_only t (suc i) n k m).from), r)) (λ p. rw p r)
