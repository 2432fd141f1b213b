-- A channel between two stops as a line: the quotient by their distance d is a product with its reciprocal, in parts of 2^40.
use Rattle.std.proofs.Common.{◌≡◌, ℕ, ◌+◌, ◌-◌, ◌*◌, ◌/◌, ◌%◌, ◌<◌, ◌≤◌, T, ℤ, pos, ◌+ℤ◌, ◌-ℤ◌, ◌*ℤ◌, nat_abs, sym, ap, ◌∙◌, subst, mul-le-mul_right}
use Rattle.std.proofs.Common.{mod-lt, mul-le-mul, lt_of_mul-lt-mul_right, div-le_self, arith, w8, Fits}
use native.Mathlib.Nat.{div-eq_of_lt-le, div-add-mod}
use lib.Signed.{non_neg}
use Rattle.fixed.specs.Floor.{floor_div}
use Rattle.fixed.proofs.Poly as P
use Rattle.fixed.proofs.Poly.{◌⊕◌, ◌⊖◌, ◌⊗◌}
use Rattle.fixed.proofs.Within.{Within, within_sub, within_mul, within_widen}
use Rattle.paint.specs.Ramps.{mix_byte}
use Rattle.paint.specs.Segments.{parts, reciprocal_of}

-- ---- d times its reciprocal is above 2^40, by at most d
module _ (d : ℕ) (some : 0 < d) where
  times_above : parts < d * reciprocal_of d
  unfolding reciprocal_of
  times_above = omega (arith, div-add-mod parts d, mod-lt parts some)

  times_below : d * reciprocal_of d ≤ parts + d
  unfolding reciprocal_of
  times_below = omega (arith, div-add-mod parts d)

-- over plain variables: q is the reciprocal, k the quotient and r the rest
lower : (n d q k r : ℕ) → d * k + r ≡ n → parts < d * q → k * parts ≤ n * q
lower n d q k r e h =
    let h' : parts ≤ d * q = omega arith in
    let f : d * k ≤ n = omega arith in
    omega (arith, mul-le-mul_right k h', mul-le-mul_right q f)

upper : (n d q k r : ℕ) → 0 < d → d ≤ 65536 → n < 256 * d → d * k + r ≡ n → r < d → d * q ≤ parts + d → n * q < (k + 1) * parts
upper n d q k r some near small e l h =
    let s : n + 1 ≤ 256 * d = omega arith in
    let m : (n + 1) * d ≤ 256 * d * d = mul-le-mul_right d s in
    let p : d * d ≤ 65536 * 65536 = mul-le-mul near near in
    lt_of_mul-lt-mul_right d (omega (arith, mul-le-mul_right n h))

pub by_reciprocal : (n d : ℕ) → 0 < d → d ≤ 65536 → n < 256 * d → n * reciprocal_of d / parts ≡ n / d
by_reciprocal n d some near small =
    let e = div-add-mod n d in
    div-eq_of_lt-le parts (lower n d (reciprocal_of d) (n / d) (n % d) e (times_above d some))
    (upper n d (reciprocal_of d) (n / d) (n % d) some near small e (mod-lt n some) (times_below d some))

-- ---- the line at a position: u and v are how far the stops are from it
module _ (ci cj u v q : ℕ) where
  -- the line's number is that of the quotient times q
  line_number : (pos cj -ℤ pos ci) *ℤ pos q *ℤ pos v +ℤ pos ((ci * (u + v) + (u + v) / 2) * q) ≡ pos ((ci * u + cj * v + (u + v) / 2) * q)
  line_number =
      P.eq ((P.num cj ⊖ P.num ci) ⊗ P.num q ⊗ P.num v ⊕ P.num ((ci * (u + v) + (u + v) / 2) * q)) (P.num ((ci * u + cj * v + (u + v) / 2) * q)) (omega arith)

below : (ci cj u v : ℕ) → ci < 256 → cj < 256 → 0 < u → ci * u + cj * v + (u + v) / 2 < 256 * (u + v)
below ci cj u v h k l =
    let h' : ci ≤ 255 = omega arith in
    let k' : cj ≤ 255 = omega arith in
    omega (arith, mul-le-mul_right u h', mul-le-mul_right v k')

pub mixed_by_line : (from to k ci cj : ℕ) → from ≤ k → k < to → to ≤ from + 65536 → ci < 256 → cj < 256
    → floor_div ((pos cj -ℤ pos ci) *ℤ pos (reciprocal_of (to - from)) *ℤ pos (k - from) +ℤ pos ((ci * (to - from) + (to - from) / 2) * reciprocal_of
    (to - from)))
    parts
    ≡ pos (mix_byte from to k ci cj)
mixed_by_line from to k ci cj h l m p q =
    let e : to - from ≡ to - k + (k - from) = omega arith in
    rw e
    (ap (λ (z : ℤ). floor_div z parts) (line_number ci cj (to - k) (k - from) (reciprocal_of (to - k + (k - from))))
    ∙ ap pos
    (by_reciprocal (ci * (to - k) + cj * (k - from) + (to - k + (k - from)) / 2) (to - k + (k - from)) (omega arith) (omega arith)
    (below ci cj (to - k) (k - from) p q (omega arith))))

-- ---- the sizes of the line's numbers
pub reciprocal_small : (d : ℕ) → reciprocal_of d ≤ 1099511627777
unfolding reciprocal_of
reciprocal_small d = omega (arith, div-le_self parts d)

pub first_small : (ci d : ℕ) → ci < 256 → 0 < d → d ≤ 65536 → (ci * d + d / 2) * reciprocal_of d ≤ 281492156579840
first_small ci d h some near =
    let h' : ci ≤ 255 = omega arith in
    let s : ci * d + d / 2 ≤ 256 * d = omega (arith, mul-le-mul_right d h') in
    omega (arith, mul-le-mul_right (reciprocal_of d) s, times_below d some)

apart : (ci cj : ℕ) → ci < 256 → cj < 256 → Within 510 (pos cj -ℤ pos ci)
apart ci cj h k = within_sub {m = 255} {n = 255} {a = pos cj} {b = pos ci} (record { size = omega arith }) (record { size = omega arith })

-- v reciprocals are at most 2^40, and a little
pub step_small : (ci cj d v : ℕ) → ci < 256 → cj < 256 → d ≤ 65536 → v < d
    → Within 562949953421312 ((pos cj -ℤ pos ci) *ℤ pos (reciprocal_of d) *ℤ pos v)
step_small ci cj d v h k near l =
    let q = reciprocal_of d in
    let v' : v ≤ d = omega arith in
    let s : q * v ≤ 1099511693312 = omega (arith, mul-le-mul_right q v', times_below d (omega arith)) in
    let e : (pos cj -ℤ pos ci) *ℤ pos q *ℤ pos v ≡ (pos cj -ℤ pos ci) *ℤ pos (q * v) =
    P.eq ((P.num cj ⊖ P.num ci) ⊗ P.num q ⊗ P.num v) ((P.num cj ⊖ P.num ci) ⊗ P.num (q * v)) (omega arith) in
    subst (λ (z : ℤ). Within 562949953421312 z) (sym e)
    (within_widen tt
    (within_mul (apart ci cj h k) (record { size = s })))

pub step_one : (ci cj d : ℕ) → ci < 256 → cj < 256 → Within 562949953421312 ((pos cj -ℤ pos ci) *ℤ pos (reciprocal_of d))
step_one ci cj d h k =
    within_widen tt (within_mul (apart ci cj h k) (record { size = reciprocal_small d }))

-- a number that is a byte may be cast to one
pub byte_cast : (z : ℤ) (m : ℕ) → z ≡ pos m → m < 256 → T (non_neg z) × Fits w8 (nat_abs z)
byte_cast z m e h = rw e (tt, omega arith)
