-- k is at most 16, and scissors only lower it.
use mathlib.Core.Path.{◌≡◌, refl}
use mathlib.Core.List.{List}
use mathlib.Core.Bool.{Bool, true, false, not, cond, ◌&&◌}
use Prim.Native.Nat.{ℕ, ◌+◌, ◌*◌, ◌≤◌}
use native.Mathlib.Omega.{arith}
use Rattle.path.specs.declared.Edge.{Edge}
use Rattle.coverage.specs.Winding.{winding, sample, tally, coverage}
use Rattle.coverage.specs.Scissors.{in_scissors, scissored}
use Rattle.coverage.proofs.Tally.{tally_le}

pub coverage_at_most_16 : (es : List Edge) (non_zero : Bool) (x y : ℕ) → coverage es non_zero x y ≤ 16
unfolding coverage
coverage_at_most_16 es non_zero x y =
    let t : (r : ℕ) → tally non_zero (λ j. winding es (sample j) (sample (4 * y + r))) x ≤ 4 = λ r. tally_le non_zero
    (λ j. winding es (sample j) (sample (4 * y + r))) x in
    omega (arith, t 0, t 1, t 2, t 3)

module _ (on : Bool) (scissors : List ℕ) (n x y : ℕ) where
  pub scissored_uncovered : scissored on scissors n x y 0 ≡ 0
  unfolding scissored
  scissored_uncovered = by (on && not (in_scissors scissors n x y))
    where
      by : (t : Bool) → ◌≡◌ {A = ℕ} (cond t 0 0) 0
      by true = refl
      by false = refl

  pub scissored_at_most : (k : ℕ) → scissored on scissors n x y k ≤ k
  unfolding scissored
  scissored_at_most k = by (on && not (in_scissors scissors n x y))
    where
      by : (t : Bool) → cond t 0 k ≤ k
      by true = omega arith
      by false = omega arith
