-- Rules on floats, judged by their bit patterns.
use mathlib.Core.Path.{◌≡◌, ap, ◌∙◌}
use mathlib.Core.Bool.{Bool}
use mathlib.Core.List.{List}
use Prim.Native.Nat.{ℕ, ◌+◌, ◌*◌, ◌^◌, ◌≤◌}
use lib.Dec.{leb}
use Rattle.std.specs.Prelude.{Result}
use Rattle.codes.specs.First.{first_among}
use Rattle.codes.proofs.Judged.{among_same}
use Rattle.fixed.specs.Little.{u32_at}
use Rattle.fixed.specs.Patterns.{size_bits, infinity_pattern, power_pattern}
use Rattle.fixed.proofs.Patterns.{size_pattern, number_pattern}
use Rattle.scene.specs.Faults.{must, limited, numbers}
use Rattle.scene.specs.declared.FieldFault.{FieldFault}

module _ (d : List ℕ) (at n : ℕ) where
  abbrev patterns : ℕ → Result Unit FieldFault
  patterns limit = first_among n (λ i. must (leb (size_bits (u32_at d (at + 4 * i))) limit) (at + 4 * i))

  -- one test in place of another
  judged : (t u : ℕ → Bool) → ((i : ℕ) → t i ≡ u i) → first_among n (λ i. must (t i) (at + 4 * i)) ≡ first_among n (λ i. must (u i) (at + 4 * i))
  judged t u e = among_same _ _ n (λ i. ap (λ (b : Bool). must b (at + 4 * i)) (e i))

  pub limited_patterns : (log limit : ℕ) → log ≤ 15 → limit ≡ power_pattern log → patterns limit ≡ limited d (2 ^ log) at n
  limited_patterns log limit h e = ap patterns e ∙ judged _ _ (λ i. size_pattern (u32_at d (at + 4 * i)) log h)

  pub numbers_patterns : patterns infinity_pattern ≡ numbers d at n
  numbers_patterns = judged _ _ (λ i. number_pattern (u32_at d (at + 4 * i)))
