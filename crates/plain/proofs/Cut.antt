-- A pixel that lies in one of the scissors lies in them.
use mathlib.Core.Path.{◌≡◌, refl, ap}
use mathlib.Core.List.{List}
use mathlib.Core.Bool.{Bool, true, false, ◌||◌}
use mathlib.Core.Logic.{⊎_elim}
use Prim.Native.Nat.{ℕ, zero, suc, ◌<◌}
use native.Mathlib.Nat.{eq-or-lt_of_le, le_of_suc-le-suc, not-suc-le-zero}
use Rattle.coverage.specs.Scissors.{in_scissor, in_scissors}

or_true : (a b : Bool) → b ≡ true → (a || b) ≡ true
or_true true b h = refl
or_true false b h = h

pub in_one_lem : (s : List ℕ) (n x y i : ℕ) → i < n → in_scissor s i x y ≡ true → in_scissors s n x y ≡ true
in_one_lem s zero x y i h q = absurd (not-suc-le-zero h)
in_one_lem s (suc n) x y i h q =
    ⊎_elim (λ e. or_true (in_scissors s n x y) (in_scissor s n x y) (rw e at q))
    (λ l. ap (λ (a : Bool). a || in_scissor s n x y) (in_one_lem s n x y i l q))
    (eq-or-lt_of_le (le_of_suc-le-suc h))
