-- What holds of every element of a list.
use mathlib.Core.List.{List, [], ◌∷◌, ◌++◌}
use mathlib.Core.Logic.{⊎_elim}
use Prim.Native.Nat.{ℕ, zero, suc, ◌<◌}
use native.Mathlib.Nat.{eq-or-lt_of_le, le_of_suc-le-suc, not-suc-le-zero}
use native.Mathlib.Omega.{arith}
use Rattle.lists.specs.Lists.{upto, tab}
pub use Rattle.outline.specs.Every.{Every, none, more}

module _ {A : Type 0} {P : A → Type 0} where
  pub every_map : {Q : A → Type 0} {xs : List A} → ((x : A) → P x → Q x) → Every P xs → Every Q xs
  every_map f none = none
  every_map f (more {x} p h) = more (f x p) (every_map f h)

  pub every_append : {xs ys : List A} → Every P xs → Every P ys → Every P (xs ++ ys)
  every_append none k = k
  every_append (more p h) k = more p (every_append h k)

  every_left : (xs ys : List A) → Every P (xs ++ ys) → Every P xs
  every_left [] ys h = none
  every_left (x ∷ xs) ys (more p h) = more p (every_left xs ys h)

  every_right : (xs ys : List A) → Every P (xs ++ ys) → Every P ys
  every_right [] ys h = h
  every_right (x ∷ xs) ys (more p h) = every_right xs ys h

  pub every_upto : (n : ℕ) (f : ℕ → List A) → ((k : ℕ) → k < n → Every P (f k)) → Every P (upto n f)
  every_upto zero f h = none
  every_upto (suc n) f h = every_append (every_upto n f (λ k l. h k (omega arith))) (h n (omega arith))

  head_of : {a : A} → Every P (a ∷ []) → P a
  head_of (more p h) = p

  pub every_at : (n : ℕ) (f : ℕ → A) → Every P (tab n f) → (k : ℕ) → k < n → P (f k)
  every_at zero f h k l = absurd (not-suc-le-zero l)
  every_at (suc n) f h k l =
      ⊎_elim (λ e. rw e (head_of (every_right (tab n f) (f n ∷ []) h))) (λ m. every_at n f (every_left (tab n f) (f n ∷ []) h) k m)
      (eq-or-lt_of_le (le_of_suc-le-suc l))
