-- P4: for every scene, mask, surface and scratch both engines give the same answer, the same bytes and the same scratch, refusals included.
use mathlib.Core.Path.{◌≡◌, sym, ◌∙◌}
use mathlib.Core.List.{List}
use Prim.Native.Nat.{ℕ}
use lib.IntN.{ℤ}
use Rattle.render.specs.declared.Answer.{Answer}
use Rattle.render.specs.Answers.{Mask}
use Rattle.plain.specs.Both.{Drawn}

pub engines_agree : (s : List ℕ) (m : Mask) (surface : List ℕ) (scratch : List ℤ) (r t : Answer) (q u : List ℕ) (n v : List ℤ)
    → Drawn s m surface scratch r q n → Drawn s m surface scratch t u v → (r ≡ t) × (q ≡ u) × (n ≡ v)
engines_agree s m surface scratch r t q u n v a b = (a.answer ∙ sym b.answer, a.bytes ∙ sym b.bytes, a.room ∙ sym b.room)
