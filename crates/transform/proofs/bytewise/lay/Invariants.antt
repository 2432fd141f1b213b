-- `transform::bytewise::lay` meets its contract: the numbers of i pixels are laid out.
use mathlib.Core.Path.{◌≡◌}
use mathlib.Core.List.{List, [], ◌∷◌}
use Prim.Native.Nat.{ℕ}
use lib.ListN.{length}
use Rattle.lists.specs.Lists.{upto, over}
use Rattle.transform.proofs.bytewise.lay.Given as goal

-- what is stored in each turn
abbrev pub four : {A : Type 0} → A → A → A → A → ℕ → List A
four r g b a k = r ∷ g ∷ b ∷ a ∷ []

abbrev pub invariant-loop-i : goal.invariant-loop-i
invariant-loop-i g l = (length l.s ≡ 64) × (l.s ≡ over (upto l.i (four l.r l.g l.b l.a)) l.initial.s)
