-- Judgements, one after the other: the first refusal, and that all accept.
use mathlib.Core.Path.{◌≡◌, refl}
use mathlib.Core.Logic.{⊎_elim}
use Prim.Native.Nat.{ℕ, zero, suc, ◌+◌, ◌<◌}
use native.Mathlib.Nat.{eq-or-lt_of_le, le_of_suc-le-suc, not-suc-le-zero}
use native.Mathlib.Numerals.{add-one}
use Rattle.std.specs.Prelude.{Result, Ok, Err}
use Rattle.codes.specs.First.{first_of, first_among}

-- ---- of two
module _ {E : Type 0} where
  pub both_accept : (f g : Result Unit E) → first_of f g ≡ Ok tt → (f ≡ Ok tt) × (g ≡ Ok tt)
  both_accept (Ok u) g h = (refl, h)
  both_accept (Err e) g h = cc

  -- ---- of n
  pub all_accept : (f : ℕ → Result Unit E) (n : ℕ) → first_among n f ≡ Ok tt → (i : ℕ) → i < n → f i ≡ Ok tt
  all_accept f zero h i l = absurd (not-suc-le-zero l)
  all_accept f (suc n) h i l =
      let p = both_accept (first_among n f) (f n) h in
      ⊎_elim (λ e. rw e p.1) (all_accept f n p.0 i) (eq-or-lt_of_le (le_of_suc-le-suc l))

  pub refuse_turn : (f : ℕ → Result Unit E) (n m : ℕ) (e : E) → n < m → first_among n f ≡ Ok tt → f n ≡ Err e → first_among m f ≡ Err e
  refuse_turn f n zero e l h k = absurd (not-suc-le-zero l)
  refuse_turn f n (suc m) e l h k =
      ⊎_elim (λ q. rw (← q, h, k)) (λ q. rw (refuse_turn f n m e q h k)) (eq-or-lt_of_le (le_of_suc-le-suc l))

  -- the same judgements in the same places
  pub among_same : (f g : ℕ → Result Unit E) (n : ℕ) → ((i : ℕ) → f i ≡ g i) → first_among n f ≡ first_among n g
  among_same f g zero h = refl
  among_same f g (suc n) h = rw (among_same f g n h, h n)
