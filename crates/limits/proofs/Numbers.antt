-- A run of signed numbers compared with a rule, number by number.
use mathlib.Core.Path.{◌≡◌, sym, ap, ◌∙◌}
use mathlib.Core.List.{List}
use Prim.Native.Nat.{ℕ, ◌<◌, ◌^◌}
use lib.IntN.{ℤ, pos}
use lib.ListN.{length, get_or}
use lib.Signed.{mag}
use mir.Syntax.{w32}
use mir.Val.{to_z, of_z, hbits}
use Rattle.lists.specs.Lists.{tab}
use Rattle.lists.proofs.Laws.{tab_at}
use Rattle.fixed.proofs.Signed.{back}

-- numbers with the same bits are the same
pub same_bits : (z r : ℤ) → mag z < 2 ^ hbits w32 → mag r < 2 ^ hbits w32 → of_z w32 z ≡ of_z w32 r → z ≡ r
same_bits z r a b e = sym (back w32 z a) ∙ ap (to_z w32) e ∙ back w32 r b

-- a number with other bits is not the rule's
pub other_bits : (f : ℕ → ℤ) (s : List ℤ) (i : ℕ) (r : ℤ) → r ≡ f i → i < length s → (of_z w32 (get_or s i (pos 0)) ≡ of_z w32 r → ⊥)
    → s ≡ tab (length s) f → ⊥
other_bits f s i r e l h q = h (ap (of_z w32) (ap (λ t. get_or t i (pos 0)) q ∙ tab_at (length s) f i (pos 0) l ∙ sym e))
