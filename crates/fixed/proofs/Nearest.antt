-- `nearest_of` of a small fraction and of equal fractions, and its size.
use mathlib.Core.Path.{◌≡◌, sym, ap, ◌∙◌, subst}
use mathlib.Core.Bool.{Bool, true, false}
use Prim.Native.Nat.{ℕ, suc, ◌+◌, ◌*◌, ◌-◌, ◌/◌, ◌≤◌, ◌<◌}
use native.Mathlib.Nat.{div-eq_of_lt, div-lt_iff_lt-mul}
use native.Mathlib.Decide.{dec_le}
use native.Mathlib.Omega.{arith}
use lib.IntN.{ℤ, pos, negsuc, neg_ℤ, nat_abs, ◌+ℤ◌}
use Rattle.fixed.specs.Floor.{floor_div}
use Rattle.fixed.specs.Floats.{nearest_of}
use Rattle.fixed.proofs.Round.{floor_same}
use Rattle.fixed.proofs.Poly as P
use Rattle.fixed.proofs.Poly.{◌⊕◌, ◌⊗◌}

-- what is rounded for a negative fraction: d - 2 a, not negative or negative
none_below : (a d : ℕ) → 2 * a ≤ d → pos (d - 2 * a) ≡ neg_ℤ (pos (2 * a)) +ℤ pos d
none_below a d h = P.eq (P.num (d - 2 * a)) (P.neg (P.num (2 * a)) ⊕ P.num d) (omega arith)

some_below : (a d : ℕ) → d < 2 * a → negsuc (2 * a - d - 1) ≡ neg_ℤ (pos (2 * a)) +ℤ pos d
some_below a d h = P.eq (P.var (negsuc (2 * a - d - 1))) (P.neg (P.num (2 * a)) ⊕ P.num d) (omega arith)

-- less than a half
pub nearest_zero : (b : Bool) (a d : ℕ) → 2 * a < d → pos 0 ≡ nearest_of b a d
nearest_zero false a d h = ap pos (sym (div-eq_of_lt (omega arith)))
nearest_zero true a d h =
    ap pos (sym (div-eq_of_lt {n = d - 2 * a} {m = 2 * d} (omega arith)))
    ∙ ap (λ (z : ℤ). floor_div z (2 * d)) (none_below a d (omega arith))

twice : (d : ℕ) → 0 < d → 0 < 2 * d
twice d h = omega arith

-- a / d and b / c are one fraction
pub nearest_same : (s : Bool) (a d b c : ℕ) → 0 < d → 0 < c → a * c ≡ b * d → nearest_of s a d ≡ nearest_of s b c
nearest_same false a d b c hd hc e =
    floor_same (pos (2 * a) +ℤ pos d) (pos (2 * b) +ℤ pos c) (2 * d) (2 * c) (twice d hd) (twice c hc)
    (P.eq ((P.num (2 * a) ⊕ P.num d) ⊗ P.num (2 * c)) ((P.num (2 * b) ⊕ P.num c) ⊗ P.num (2 * d)) (omega arith))
nearest_same true a d b c hd hc e =
    floor_same (neg_ℤ (pos (2 * a)) +ℤ pos d) (neg_ℤ (pos (2 * b)) +ℤ pos c) (2 * d) (2 * c) (twice d hd) (twice c hc)
    (P.eq ((P.neg (P.num (2 * a)) ⊕ P.num d) ⊗ P.num (2 * c)) ((P.neg (P.num (2 * b)) ⊕ P.num c) ⊗ P.num (2 * d)) (omega arith))

-- a fraction of size at most b is rounded to one
pub nearest_size : (s : Bool) (a d b : ℕ) → 0 < d → a ≤ b * d → nat_abs (nearest_of s a d) ≤ b
nearest_size false a d b hd h =
    let l : (2 * a + d) / (2 * d) < suc b = (div-lt_iff_lt-mul (twice d hd)).1 (omega (arith, h)) in
    omega (arith, l)
nearest_size true a d b hd h = by (dec_le (2 * a) d)
  where
    by : Dec (2 * a ≤ d) → nat_abs (nearest_of true a d) ≤ b
    by (yes l) =
        subst (λ (z : ℤ). nat_abs (floor_div z (2 * d)) ≤ b) (none_below a d l)
        (let e : (d - 2 * a) / (2 * d) ≡ 0 = div-eq_of_lt (omega arith) in omega (arith, e))
    by (no l) =
        subst (λ (z : ℤ). nat_abs (floor_div z (2 * d)) ≤ b) (some_below a d (omega arith))
        ((div-lt_iff_lt-mul (twice d hd)).1 (omega (arith, h)))
