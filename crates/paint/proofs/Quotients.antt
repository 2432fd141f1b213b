-- A floor division that is carried from one numerator to the next: its parts are the only ones there are, and quotients add with a carry. The quotients
-- of a line by a product and a shift.
use Rattle.std.proofs.Common.{◌≡◌, ℕ, suc, ◌+◌, ◌-◌, ◌*◌, ◌/◌, ◌%◌, ◌<◌, ◌≤◌, Bool, true, false, ltb, ℤ, pos, negsuc, ◌+ℤ◌, ◌-ℤ◌, ◌*ℤ◌, refl, ap, ◌∙◌, ap₂}
use Rattle.std.proofs.Common.{mul-le-mul_right, mod-lt, mul_assoc, lt_of_mul-lt-mul_right, div-add-mod', arith, ltb-false, ltb-true}
use native.Mathlib.Nat.{mul-div-mul_left, div-eq_of_lt-le, div-add-mod}
use Rattle.fixed.specs.Floor.{floor_div, floor_mod}
use Rattle.fixed.proofs.Poly as P
use Rattle.fixed.proofs.Poly.{◌⊕◌, ◌⊖◌, ◌⊗◌}
use Rattle.paint.specs.Buffers.{quotient_of, add_quotients}
use Rattle.paint.proofs.Folded.{rest_below}

-- ---- natural numbers
divided : (a k r d : ℕ) → r < d → a ≡ k * d + r → (a / d ≡ k) × (a % d ≡ r)
divided a k r d h e =
    let q : a / d ≡ k = div-eq_of_lt-le d (omega arith) (omega arith) in
    (q, omega (arith, div-add-mod' a d, ap (λ (x : ℕ). x * d) q))

-- ---- a line's quotients by d are those of a line in parts of s: u and v are a s / d and h s / d, k is (a j + h) / d
lower : (s d a h j u v k : ℕ) → 0 < d → a * s < d * u + d → h * s < d * v + d → d * k ≤ a * j + h → k * s ≤ (u + 1) * j + (v + 1)
lower s d a h j u v k l f g e =
    let f' : a * s ≤ d * u + d = omega arith in
    let m : k * s < (u + 1) * j + (v + 1) = lt_of_mul-lt-mul_right d (omega (arith, mul-le-mul_right j f', mul-le-mul_right s e)) in
    omega arith

upper : (s d a h j u v k : ℕ) → (j + 1) * d < s → d * u ≤ a * s → d * v ≤ h * s → a * j + h < d * k + d → (u + 1) * j + (v + 1) < (k + 1) * s
upper s d a h j u v k l f g e =
    let e' : a * j + h + 1 ≤ d * k + d = omega arith in
    lt_of_mul-lt-mul_right d (omega (arith, mul-le-mul_right j f, mul-le-mul_right s e'))

pub linear_form : (s d a h j : ℕ) → 0 < d → (j + 1) * d < s → ((a * s / d + 1) * j + (h * s / d + 1)) / s ≡ (a * j + h) / d
linear_form s d a h j l near =
    let A = div-add-mod (a * s) d in
    let H = div-add-mod (h * s) d in
    let K = div-add-mod (a * j + h) d in
    let u = a * s / d in
    let v = h * s / d in
    let k = (a * j + h) / d in
    div-eq_of_lt-le s (lower s d a h j u v k l (omega (arith, A, mod-lt (a * s) l)) (omega (arith, H, mod-lt (h * s) l)) (omega (arith, K)))
    (upper s d a h j u v k near (omega (arith, A)) (omega (arith, H)) (omega (arith, K, mod-lt (a * j + h) l)))

-- a u / d by one product
pub by_scale : (s d a u : ℕ) → 0 < d → u * d < s → u * (a * s / d + 1) / s ≡ a * u / d
by_scale s d a u some near =
    let A = div-add-mod (a * s) d in
    let K = div-add-mod (a * u) d in
    let q = a * s / d in
    let k = a * u / d in
    let below : a * s ≤ (q + 1) * d = omega (arith, A, mod-lt (a * s) some) in
    let above : q * d ≤ a * s = omega (arith, A) in
    let least : d * k ≤ a * u = omega (arith, K) in
    let most : a * u + 1 ≤ d * k + d = omega (arith, K, mod-lt (a * u) some) in
    let low : s * k < u * (q + 1) + 1 = lt_of_mul-lt-mul_right d (omega (arith, mul-le-mul_right u below, mul-le-mul_right s least)) in
    let high : u * (q + 1) < s * (k + 1) = lt_of_mul-lt-mul_right d (omega (arith, near, mul-le-mul_right u above, mul-le-mul_right s most)) in
    div-eq_of_lt-le s (omega (arith, low)) (omega (arith, high))

-- the same of numbers with a common factor, which does not matter
pub by_part : (m s e b u : ℕ) → 0 < m → 0 < e → u * e < s → u * (m * b * s / (m * e) + 1) / s ≡ m * b * u / (m * e)
by_part m s e b u some some-part near =
    let cancel : (n : ℕ) → m * b * n / (m * e) ≡ b * n / e = λ n. ap (λ (k : ℕ). k / (m * e)) (mul_assoc m b n) ∙ mul-div-mul_left (b * n) e some in
    rw (cancel s, cancel u) (by_scale s e b u some-part near)

pub scaled_small : (u d n : ℕ) → u < d → u * (n / d + 1) ≤ n + u
scaled_small u d n l =
    let h : u ≤ d = omega arith in
    omega (arith, div-add-mod n d, mul-le-mul_right (n / d) h)

-- ---- integers
pub floor_whole : (z : ℤ) (d : ℕ) → 0 < d → z ≡ floor_div z d *ℤ pos d +ℤ pos (floor_mod z d)
floor_whole (pos a) d h = P.eq (P.num a) (P.num (a / d) ⊗ P.num d ⊕ P.num (a % d)) (omega (arith, div-add-mod' a d))
floor_whole (negsuc a) d h =
    P.eq (P.var (negsuc a)) (P.var (negsuc (a / d)) ⊗ P.num d ⊕ P.num (d - suc (a % d))) (omega (arith, div-add-mod' a d, mod-lt a h))

pub floor_parts : (z q : ℤ) (r d : ℕ) → r < d → z ≡ q *ℤ pos d +ℤ pos r → (floor_div z d ≡ q) × (floor_mod z d ≡ r)
floor_parts (pos a) (pos k) r d h e =
    let f = divided a k r d h (omega (arith, P.from_eq (P.num a) (P.num k ⊗ P.num d ⊕ P.num r) e)) in
    (ap pos f.0, f.1)
floor_parts (pos a) (negsuc k) r d h e = absurd (omega (arith, P.from_eq (P.num a) (P.var (negsuc k) ⊗ P.num d ⊕ P.num r) e))
floor_parts (negsuc a) (pos k) r d h e = absurd (omega (arith, P.from_eq (P.var (negsuc a)) (P.num k ⊗ P.num d ⊕ P.num r) e))
floor_parts (negsuc a) (negsuc k) r d h e =
    let f = divided a k (d - suc r) d (omega arith) (omega (arith, P.from_eq (P.var (negsuc a)) (P.var (negsuc k) ⊗ P.num d ⊕ P.num r) e)) in
    (ap negsuc f.0, omega (arith, f.1))

-- ---- quotients over d, added
module _ (n s : ℤ) (d : ℕ) (h : 0 < d) where
  total : n +ℤ s ≡ (floor_div n d +ℤ floor_div s d) *ℤ pos d +ℤ pos (floor_mod n d + floor_mod s d)
  total =
      ap₂ ◌+ℤ◌ (floor_whole n d h) (floor_whole s d h)
      ∙ P.eq
      (P.var (floor_div n d) ⊗ P.num d ⊕ P.num (floor_mod n d) ⊕ (P.var (floor_div s d) ⊗ P.num d ⊕ P.num (floor_mod s d)))
      ((P.var (floor_div n d) ⊕ P.var (floor_div s d)) ⊗ P.num d ⊕ P.num (floor_mod n d + floor_mod s d))
      (omega arith)

  carried : d ≤ floor_mod n d + floor_mod s d
      → n +ℤ s ≡ (floor_div n d +ℤ floor_div s d +ℤ pos 1) *ℤ pos d +ℤ pos (floor_mod n d + floor_mod s d - d)
  carried l =
      total
      ∙ P.eq
      ((P.var (floor_div n d) ⊕ P.var (floor_div s d)) ⊗ P.num d ⊕ P.num (floor_mod n d + floor_mod s d))
      ((P.var (floor_div n d) ⊕ P.var (floor_div s d) ⊕ P.num 1) ⊗ P.num d ⊕ P.num (floor_mod n d + floor_mod s d - d))
      (omega arith)

  pub quotients_add : add_quotients (quotient_of n d) (quotient_of s d) (pos d) ≡ quotient_of (n +ℤ s) d
  quotients_add = by (ltb (floor_mod n d + floor_mod s d) d) refl
    where
      by : (t : Bool) → ltb (floor_mod n d + floor_mod s d) d ≡ t → add_quotients (quotient_of n d) (quotient_of s d) (pos d) ≡ quotient_of (n +ℤ s) d
      by true e =
          let f = floor_parts (n +ℤ s) (floor_div n d +ℤ floor_div s d) (floor_mod n d + floor_mod s d) d (ltb-true _ _ e) total in
          rw (e, f.0, f.1)
      by false e =
          let l = ltb-false _ _ e in
          let f =
          floor_parts (n +ℤ s) (floor_div n d +ℤ floor_div s d +ℤ pos 1) (floor_mod n d + floor_mod s d - d) d
          (omega (arith, rest_below n d h, rest_below s d h))
          (carried l) in
          let g : pos (floor_mod n d + floor_mod s d) -ℤ pos d ≡ pos (floor_mod n d + floor_mod s d - d) =
          P.eq (P.num (floor_mod n d + floor_mod s d) ⊖ P.num d) (P.num (floor_mod n d + floor_mod s d - d)) (omega arith) in
          rw (e, f.0, f.1, g)
