-- Lists that are built in order, and sums over a range.
--     upto n f     f 0 ++ f 1 ++ .. ++ f (n - 1)
--     tab n f      f 0 ∷ f 1 ∷ .. ∷ f (n - 1) ∷ []
--     over p d     d with its first elements replaced by p
--     total n f    f 0 + f 1 + .. + f (n - 1)
use Rattle.std.specs.Prelude.{List, [], ◌∷◌, ◌++◌, ℕ, zero, suc, ◌+◌, length, drop}

module _ {A : Type 0} where
  abbrev pub upto : ℕ → (ℕ → List A) → List A
  upto zero f = []
  upto (suc n) f = upto n f ++ f n

  abbrev pub tab : ℕ → (ℕ → A) → List A
  tab n f = upto n (λ k. f k ∷ [])

  abbrev pub over : List A → List A → List A
  over p d = p ++ drop (length p) d

abbrev pub total : ℕ → (ℕ → ℕ) → ℕ
total zero f = 0
total (suc n) f = total n f + f n
