-- The list of replaced draws, draw by draw.
use mathlib.Core.Path.{◌≡◌, refl, ◌∙◌}
use mathlib.Core.List.{List, [], ◌∷◌, ◌++◌, append_assoc, append-nil}
use mathlib.Core.Bool.{Bool, true, false, cond}
use Prim.Native.Nat.{ℕ, zero, suc, ◌+◌, ◌*◌, ◌/◌, ◌≤◌, ◌<◌}
use native.Mathlib.Nat.{add-zero}
use native.Mathlib.Numerals.{add-one}
use native.Mathlib.Omega.{arith}
use lib.ListN.{length, set, take, length-append}
use lib.Seq.{take-nil, take_all, take-append-le}
use lib.Dec.{ltb}
use borrow.Author.Tests.{eq-eqb, ne_eqb, ltb-true, ltb-false}
use Rattle.lists.specs.Lists.{over}
use Rattle.lists.proofs.Laws.{over_put}
use Rattle.rect.proofs.Laws.{either}
use Rattle.rescue.specs.Salvaged.{draw_code, is_kept, listed_to, replaced_to, fitting}

module _ (s : List ℕ) where
  -- two numbers for each
  pub listed_length : (n : ℕ) → length (listed_to s n) ≡ 2 * replaced_to s n
  unfolding listed_to replaced_to
  listed_length zero = omega arith
  listed_length (suc n) = rw (length-append, listed_length n) (grown (is_kept s n) (replaced_to s n))
    where
      grown : (t : Bool) (k : ℕ) → 2 * k + length (cond t [] (n ∷ draw_code s n ∷ [])) ≡ 2 * (k + cond t 0 1)
      grown true k = omega arith
      grown false k = omega arith

  pub none_listed : (d : List ℕ) → (0 ≡ replaced_to s 0) × (d ≡ over (fitting (length d) (listed_to s 0)) d)
  unfolding listed_to replaced_to fitting
  none_listed d = (refl, rw take-nil)

  module _ (n : ℕ) where
    pub kept_turn : draw_code s n ≡ 0 → (listed_to s (n + 1) ≡ listed_to s n) × (replaced_to s (n + 1) ≡ replaced_to s n)
    unfolding listed_to replaced_to
    kept_turn h = (rw (add-one, eq-eqb (draw_code s n) 0 h, append-nil), rw (add-one, eq-eqb (draw_code s n) 0 h, add-zero))

    pub replaced_turn : (draw_code s n ≡ 0 → ⊥)
        → (listed_to s (n + 1) ≡ listed_to s n ++ (n ∷ draw_code s n ∷ [])) × (replaced_to s (n + 1) ≡ replaced_to s n + 1)
    unfolding listed_to replaced_to
    replaced_turn h = (rw (add-one, ne_eqb (draw_code s n) 0 h), rw (add-one, ne_eqb (draw_code s n) 0 h))

    -- the two numbers of draw n, stored after those before it, if there is room for both
    module _ (l d : List ℕ) (k c : ℕ) (bad : draw_code s n ≡ 0 → ⊥) (e : c ≡ draw_code s n) (q : k ≡ replaced_to s n)
        (o : l ≡ over (fitting (length d) (listed_to s n)) d) where
      wide : length (listed_to s n) ≡ 2 * k
      wide = listed_length n ∙ rw q

      room : 2 * k + 1 < length d → set (set l (2 * k) n) (2 * k + 1) c ≡ over (fitting (length d) (listed_to s (n + 1))) d
      unfolding fitting
      room m =
          let w = wide in
          let before : take (2 * (length d / 2)) (listed_to s n) ≡ listed_to s n = take_all (2 * (length d / 2)) (listed_to s n) (omega arith) in
          let after : take (2 * (length d / 2)) (listed_to s (n + 1)) ≡ listed_to s (n + 1)
          = take_all (2 * (length d / 2)) (listed_to s (n + 1)) (rw ((replaced_turn bad).0, length-append) (omega arith)) in
          rw (
            o,
            e,
            before,
            over_put (listed_to s n) d (2 * k) n w (omega arith),
            over_put (listed_to s n ++ (n ∷ [])) d (2 * k + 1) (draw_code s n) (simp length-append (omega arith)) m,
            append_assoc (listed_to s n),
            after,
            (replaced_turn bad).0,
          )

      no_room : length d ≤ 2 * k + 1 → l ≡ over (fitting (length d) (listed_to s (n + 1))) d
      unfolding fitting
      no_room m =
          let w = wide in
          rw (o, (replaced_turn bad).0, take-append-le (2 * (length d / 2)) (listed_to s n) (n ∷ draw_code s n ∷ []) (omega arith))

      pub listed_turn : length l ≡ length d
          → cond (ltb (2 * k + 1) (length l)) (set (set l (2 * k) n) (2 * k + 1) c) l ≡ over (fitting (length d) (listed_to s (n + 1))) d
      listed_turn g =
          either (ltb (2 * k + 1) (length l))
          (λ t. rw t (room (rw g at (ltb-true (2 * k + 1) (length l) t))))
          (λ t. rw t (no_room (rw g at (ltb-false (2 * k + 1) (length l) t))))
