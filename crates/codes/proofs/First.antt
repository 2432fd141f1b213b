-- The first of two: each before it is none.
use mathlib.Core.Path.{◌≡◌, refl}
use mathlib.Core.Bool.{Bool, true, false}
use Prim.Native.Nat.{ℕ}
use lib.Dec.{eqb}
use borrow.Author.Tests.{eq-eqb, ne_eqb, eqb-true, eqb-false}
use Rattle.codes.specs.First.{sooner}

-- ---- of two: f answers the first, k the second
module _ {A : Type 0} (code : A → ℕ) where
  pub sooner_first : (f g h : A) → f ≡ g → (code f ≡ 0 → ⊥) → f ≡ sooner code g h
  sooner_first f g h e n = rw (← e, ne_eqb (code f) 0 n)

  pub sooner_second : (f g k h : A) → f ≡ g → code f ≡ 0 → k ≡ h → k ≡ sooner code g h
  sooner_second f g k h e z d = rw (← e, eq-eqb (code f) 0 z) d

  -- the first has code 0: so has each
  pub sooner_none : (f g : A) → code (sooner code f g) ≡ 0 → (code f ≡ 0) × (code g ≡ 0)
  sooner_none f g h = by (eqb (code f) 0) refl
    where
      by : (t : Bool) → eqb (code f) 0 ≡ t → (code f ≡ 0) × (code g ≡ 0)
      by true e = (eqb-true (code f) 0 e, rw e at h)
      by false e = absurd (eqb-false (code f) 0 e (rw e at h))
