-- The offset of a stop, by a comparison with 0 and a conversion under the limit 1.
use mathlib.Core.Path.{◌≡◌, refl, sym, ap, ◌∙◌, subst}
use mathlib.Core.Bool.{true, false, ◌&&◌, ◌||◌}
use Prim.Native.Nat.{ℕ, ◌*◌}
use native.Mathlib.Nat.{one-mul}
use native.Mathlib.Decide.{ℕ_discrete}
use native.Mathlib.Omega.{arith}
use borrow.Author.Tests.{le-leb, lt-leb, lt-ltb, le-ltb, eq-eqb}
use lib.Dec.{T, leb, ltb, eqb, eqb→eq}
use lib.IntN.{pos}
use lib.Ieee.{Float, nan, inf, fin, up, down, lt, le, eq}
use Rattle.fixed.specs.Floats.{at_most, in_unit}
use Rattle.fixed.proofs.Tests.{both_left}

abbrev zero_f : Float
zero_f = fin false 0 (pos 0)

-- -0, or what is below 0
negative_zero : (a d : ℕ) → (eqb (0 * 1 * d) (a * 1) && eqb (0 * 1 * d) 0) ≡ true → a ≡ 0
negative_zero a d h = omega (arith, eqb→eq (0 * 1 * d) (a * 1) (both_left (eqb (0 * 1 * d) (a * 1)) (eqb (0 * 1 * d) 0) (subst T (sym h) tt)))

negative_more : (a d : ℕ) → (eqb (0 * 1 * d) (a * 1) && eqb (0 * 1 * d) 0) ≡ false → leb a 0 ≡ false
negative_more a d h = by (ℕ_discrete a 0)
  where
    by : Dec (a ≡ 0) → leb a 0 ≡ false
    by (yes e) = absurd (subst T (rw (eq-eqb (0 * 1 * d) (a * 1) (omega (arith, e)), eq-eqb (0 * 1 * d) 0 (omega arith)) at h) tt)
    by (no n) = lt-leb a 0 (omega arith)

-- a number that is not negative is at least 0
at_least_zero : (a d : ℕ) → (ltb (0 * 1 * d) (a * 1) || (eqb (0 * 1 * d) (a * 1) && true)) ≡ true
at_least_zero a d = by (ℕ_discrete a 0)
  where
    by : Dec (a ≡ 0) → (ltb (0 * 1 * d) (a * 1) || (eqb (0 * 1 * d) (a * 1) && true)) ≡ true
    by (yes e) = rw (le-ltb (0 * 1 * d) (a * 1) (omega arith), eq-eqb (0 * 1 * d) (a * 1) (omega arith))
    by (no n) = rw (lt-ltb (0 * 1 * d) (a * 1) (omega arith))

-- from 0 on, the range is a limit on the size
pub unit_limit : (v : Float) → le zero_f v ≡ true → in_unit v ≡ at_most 1 v
unfolding le lt eq
unit_limit nan h = refl
unit_limit (inf s) h = refl
unit_limit (fin false m e) h = ap (leb (m * up e)) (sym (one-mul (down e)))
unit_limit (fin true m e) h =
    let z = negative_zero (m * up e) (down e) h in
    le-leb (m * up e) 0 (omega (arith, z)) ∙ sym (le-leb (m * up e) (1 * down e) (omega (arith, z)))

-- and below 0 nothing is in it
pub below_zero : (v : Float) → le zero_f v ≡ false → in_unit v ≡ false
unfolding le lt eq
below_zero nan h = refl
below_zero (inf s) h = refl
below_zero (fin false m e) h = absurd (subst T (sym (at_least_zero (m * up e) (down e)) ∙ h) tt)
below_zero (fin true m e) h = negative_more (m * up e) (down e) h
