-- A word among a program's arguments, as a walk over the places from 1 on finds it.
use mathlib.Core.Path.{◌≡◌, refl, sym, ◌∙◌, subst}
use mathlib.Core.Bool.{Bool, true, false, true≢false}
use mathlib.Core.List.{List, [], ◌∷◌}
use Prim.Native.Nat.{ℕ, zero, suc, ◌+◌, ◌-◌, ◌<◌, ◌≤◌}
use native.Mathlib.Omega.{arith}
use lib.ListN.{length, get_or}
use Rattle.std.specs.Prelude.{IsTrue, Some, HoldsAt, MatchBool, slice_index_or}
use Rattle.std.specs.List.{range_with_len}
use Rattle.std.proofs.Common.{rules}
use Rattle.std.proofs.lemmas.List.FromFn.{length-range_with_len, get_or-range_with_len}
use Rattle.console.specs.declared.arguments.Word.{Word}
use Rattle.console.specs.Words.{word_at, OtherIs}

-- a word that is there has its place among them
word_below : (ws : List Word) (k : ℕ) (s : List ℕ) → word_at ws k ≡ Some s → k < length ws
word_below [] k s h = search rules
word_below (w ∷ ws) zero s h = omega arith
word_below (w ∷ ws) (suc k) s h = let b = word_below ws k s h in omega (arith, b)

module _ (ws : List Word) (i : ℕ) (s : List ℕ) where
  abbrev pub Hit : ℕ → Type 0
  Hit k = (k ≡ i → ⊥) × (word_at ws k ≡ Some s)

  -- what `any` found on a walk from place 1 on, in the words of the definition
  pub other_is : (a n : ℕ) (r : Bool)
      → MatchBool r ((k : ℕ) × (k < length (range_with_len a n)) × HoldsAt Hit (range_with_len a n) k)
      ((k d : ℕ) → 0 ≤ k → k < length (range_with_len a n) → Hit (slice_index_or (range_with_len a n) k d) → ⊥)
      → 0 < a → a ≤ 1 → n ≡ length ws - a → (IsTrue r → OtherIs ws i s) × (OtherIs ws i s → IsTrue r)
  other_is a n true m low high e =
      let at = get_or-range_with_len a n m.0 0 (rw length-range_with_len at m.1) in
      let hit : Hit (a + m.0) = subst Hit at (m.2 0) in
      ((λ t. (a + m.0, omega (arith, low), hit.0, hit.1)), (λ o. refl))
  other_is a n false m low high e = (
    (λ t. absurd (true≢false (sym t))),
    (λ o.
        let b = word_below ws o.0 s o.3 in
        let l : o.0 - a < n = omega (arith, b, e, o.1, low, high) in
        let at = get_or-range_with_len a n (o.0 - a) 0 l in
        let place : a + (o.0 - a) ≡ o.0 = omega (arith, o.1, high) in
        absurd (m (o.0 - a) 0 (omega arith) (rw length-range_with_len l) (subst Hit (sym (at ∙ place)) (o.2, o.3)))),
  )
