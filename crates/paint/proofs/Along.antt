-- t along a row as a line: its quotients by d are quotients of a line in parts of 2^44, as long as (j + 1) d is below that.
use Rattle.std.proofs.Common.{◌≡◌, ℕ, suc, ◌+◌, ◌-◌, ◌*◌, ◌/◌, ◌%◌, ◌<◌, ◌≤◌, min, [], ◌∷◌, ℤ, pos, negsuc, ◌+ℤ◌, ◌-ℤ◌, ◌*ℤ◌, nat_abs, sym, refl, ap, ◌∙◌}
use Rattle.std.proofs.Common.{ap₂, le_trans, le_refl, mod-lt, div-lt_iff_lt-mul, mul-le-mul, arith, lit<, ltb→lt}
use native.Mathlib.Nat.{div-eq_of_lt-le, div-div-eq-div-mul, div-add-mod}
use Rattle.fixed.specs.Floor.{floor_div, floor_mod}
use Rattle.fixed.proofs.Poly as P
use Rattle.fixed.proofs.Poly.{◌⊕◌, ◌⊗◌}
use Rattle.fixed.proofs.Within.{Within, within_pos, within_add, within_mul, within_widen}
use Rattle.fixed.proofs.Sign.{is_positive}
use Rattle.lists.specs.Lists.{tab}
use Rattle.lists.proofs.Laws.{upto_same}
use Rattle.paint.specs.Gradient.{ramp_unit, centre, squared_length, projection, linear_t, mapped}
use Rattle.paint.specs.Buffers.{Proper, Pads, Inner, quotient_of, quotient_at, row_step, line_parts, in_parts}
use Rattle.paint.specs.Segments.{position_of}
use Rattle.paint.specs.declared.FixedPoints.{FixedPoints}
use Rattle.paint.specs.declared.Quotient.{Quotient}
use Rattle.paint.proofs.Folded.{rest_below}
use Rattle.paint.proofs.Placing.{on_ramp}
use Rattle.paint.proofs.Quotients.{linear_form, floor_whole, floor_parts}
use Rattle.paint.proofs.Slope.{squared_is, above}
use Rattle.paint.proofs.Walk.{shifted, positive, whole_is_t}

-- ---- a fraction in parts of 2^44, by two divisions
pub fraction_below : (r d : ℕ) → r < d → r * line_parts / d < line_parts
fraction_below r d h = (div-lt_iff_lt-mul {k = d} {x = r * line_parts} {y = line_parts} (omega arith)).1 (omega arith)

pub twice_divided : (r d : ℕ) → 0 < d → r * 4194304 / d * 4194304 + r * 4194304 % d * 4194304 / d ≡ r * line_parts / d
twice_divided r d some =
    let n = r * 4194304 in
    let m = n % d * 4194304 in
    let A = div-add-mod n d in
    let B = div-add-mod m d in
    sym (div-eq_of_lt-le d (omega (arith, A, B)) (omega (arith, A, B, mod-lt m some)))

-- ---- integers: n is t's numerator at the first pixel, s what it grows by
module _ (n s : ℤ) (d j : ℕ) (some : 0 < d) where
  -- t at the jth pixel: the wholes, and what the rests add up to
  abbrev wholes : ℕ → ℤ
  wholes k = floor_div n d +ℤ floor_div s d *ℤ pos j +ℤ pos k

  by_quotients : floor_div (n +ℤ s *ℤ pos j) d ≡ wholes ((floor_mod s d * j + floor_mod n d) / d)
  by_quotients =
      let z = floor_mod s d * j + floor_mod n d in
      (floor_parts (n +ℤ s *ℤ pos j) (wholes (z / d)) (z % d) d (mod-lt z some)
      (ap₂ (λ (x y : ℤ). x +ℤ y *ℤ pos j) (floor_whole n d some) (floor_whole s d some)
      ∙ P.eq (P.var (floor_div n d) ⊗ P.num d ⊕ P.num (floor_mod n d) ⊕ (P.var (floor_div s d) ⊗ P.num d ⊕ P.num (floor_mod s d)) ⊗ P.num j)
      ((P.var (floor_div n d) ⊕ P.var (floor_div s d) ⊗ P.num j ⊕ P.num (z / d)) ⊗ P.num d ⊕ P.num (z % d))
      (omega (arith, div-add-mod z d)))
      ).0

  by_parts : (u v : ℕ)
      → floor_div (floor_div n d *ℤ pos line_parts +ℤ pos v +ℤ (floor_div s d *ℤ pos line_parts +ℤ pos u) *ℤ pos j) line_parts ≡ wholes ((u * j + v) /
      line_parts)
  by_parts u v =
      let z = u * j + v in
      (floor_parts (floor_div n d *ℤ pos line_parts +ℤ pos v +ℤ (floor_div s d *ℤ pos line_parts +ℤ pos u) *ℤ pos j) (wholes (z / line_parts))
      (z % line_parts) line_parts (mod-lt z (lit< tt))
      (P.eq (P.var (floor_div n d) ⊗ P.num line_parts ⊕ P.num v ⊕ (P.var (floor_div s d) ⊗ P.num line_parts ⊕ P.num u) ⊗ P.num j)
      ((P.var (floor_div n d) ⊕ P.var (floor_div s d) ⊗ P.num j ⊕ P.num (z / line_parts)) ⊗ P.num line_parts ⊕ P.num (z % line_parts))
      (omega (arith, div-add-mod z line_parts)))
      ).0

  same_quotient : (j + 1) * d < line_parts
      → floor_div (in_parts (quotient_of n d) (pos d) +ℤ in_parts (quotient_of s d) (pos d) *ℤ pos j) line_parts ≡ floor_div (n +ℤ s *ℤ pos j) d
  unfolding in_parts
  same_quotient near =
      by_parts (floor_mod s d * line_parts / d + 1) (floor_mod n d * line_parts / d + 1)
      ∙ ap wholes (linear_form line_parts d (floor_mod s d) (floor_mod n d) j some near)
      ∙ sym by_quotients

-- ---- the parts of a quotient
module _ (q : Quotient) (d : ℤ) (h : Proper q d) where
  fraction_small : nat_abs q.rest * line_parts / nat_abs d + 1 ≤ line_parts
  fraction_small = omega (arith, fraction_below (nat_abs q.rest) (nat_abs d) h.below)

  pub parts_small : (w : ℕ) → nat_abs q.whole < w → nat_abs (in_parts q d) ≤ w * line_parts
  unfolding in_parts
  parts_small w l =
      le_trans (within_add (within_mul {m = nat_abs q.whole} {a = q.whole} (record { size = le_refl _ }) (within_pos line_parts))
      (within_pos (nat_abs q.rest * line_parts / nat_abs d + 1))
      ).size
      (omega (arith, fraction_small))

-- ---- the numbers of a line of at most 256 steps
pub line_size : (first step : ℤ) (i : ℕ) → nat_abs first ≤ 2305843009213693952 → nat_abs step ≤ 18014398509481984 → i ≤ 256
    → Within 6917529027641081856 (first +ℤ step *ℤ pos i)
line_size first step i h k l =
    within_widen tt
    (within_add {m = 2305843009213693952} {a = first} (record { size = h })
    (within_mul {m = 18014398509481984} {n = 256} {a = step} {b = pos i} (record { size = k }) (record { size = l })))

pub line_first : (first step : ℤ) → first ≡ first +ℤ step *ℤ pos 0
line_first first step = P.eq (P.var first) (P.var first ⊕ P.var step ⊗ P.num 0) (omega arith)

pub line_next : (first step : ℤ) (i : ℕ) → first +ℤ step *ℤ pos i +ℤ step ≡ first +ℤ step *ℤ pos (i + 1)
line_next first step i = P.eq (P.var first ⊕ P.var step ⊗ P.num i ⊕ P.var step) (P.var first ⊕ P.var step ⊗ P.num (i + 1)) (omega arith)

-- ---- a line is between its ends, so it lies on the ramp where they do
pub inner_between : (first step : ℤ) (i n : ℕ) → i ≤ n → Inner first → Inner (first +ℤ step *ℤ pos n) → Inner (first +ℤ step *ℤ pos i)
inner_between first (pos s) i n h f l =
    let z = P.var first ⊕ P.num s ⊗ P.num i in
    record {
      above = P.le (P.num 0) z (omega (arith, P.from_le (P.num 0) (P.var first) f.above));
      below = P.lt z (P.num 1152921504606846976)
          (omega (arith, mul-le-mul (le_refl s) h, P.from_lt (P.var first ⊕ P.num s ⊗ P.num n) (P.num 1152921504606846976) l.below));
    }
inner_between first (negsuc s) i n h f l =
    let z = P.var first ⊕ P.var (negsuc s) ⊗ P.num i in
    record {
      above = P.le (P.num 0) z
          (omega (arith, mul-le-mul (le_refl (suc s)) h, P.from_le (P.num 0) (P.var first ⊕ P.var (negsuc s) ⊗ P.num n) l.above));
      below = P.lt z (P.num 1152921504606846976) (omega (arith, P.from_lt (P.var first) (P.num 1152921504606846976) f.below));
    }

pub inner_size : (t : ℤ) → Inner t → nat_abs t ≤ 1152921504606846976
inner_size (pos n) h = omega (arith, ltb→lt n 1152921504606846976 h.below.lt)
inner_size (negsuc n) h = absurd h.above.le

-- there t is as it would be cut
pub inner_is : (t : ℤ) → Inner t → floor_div t line_parts ≡ pos (min (position_of (floor_div t line_parts) - 1) 65535)
inner_is (pos n) h =
    let l : n / line_parts < 65536 = omega (arith, ltb→lt n 1152921504606846976 h.below.lt) in
    let e : n / line_parts ≡ min (n / line_parts + 1 - 1) 65535 = omega arith in
    ap pos (e ∙ ap (λ (k : ℕ). min (k - 1) 65535) (on_ramp (n / line_parts) l))
inner_is (negsuc n) h = absurd h.above.le

-- ---- t by the high half of its bits
pub high_half : (z : ℤ) → nat_abs z ≤ 6917529027641081856 → Within 1610612736 (floor_div z 4294967296)
high_half (pos n) h = record { size = omega arith }
high_half (negsuc n) h = record { size = omega arith }

pub floor_twice : (z : ℤ) → floor_div (floor_div z 4294967296) 4096 ≡ floor_div z line_parts
floor_twice (pos n) = ap pos (div-div-eq-div-mul n 4294967296 4096)
floor_twice (negsuc n) = ap negsuc (div-div-eq-div-mul n 4294967296 4096)

-- ---- t along a row
-- n numbers below a limit that n times is at most what a whole has in parts
pub below_limit : (n d l : ℕ) → n * l ≤ line_parts → d < l → (i : ℕ) → i < n → (i + 1) * d < line_parts
below_limit n d l h k i f =
    let few : i + 1 ≤ n = omega (arith, f) in
    let less : d + 1 ≤ l = omega (arith, k) in
    omega (arith, h, mul-le-mul few less)

module _ (p : FixedPoints) (apart : nat_abs (squared_length p) ≡ 0 → ⊥) where
  proper : (z : ℤ) → Proper (quotient_of z (nat_abs (squared_length p))) (squared_length p)
  proper z = record { rest = refl; divisor = is_positive (above (squared_is p) apart); below = rest_below z (nat_abs (squared_length p)) (positive p apart) }

  pub at_proper : (x y : ℕ) → Proper (quotient_at p x y) (squared_length p)
  unfolding quotient_at
  at_proper x y = proper (pos ramp_unit *ℤ projection p x y)

  pub step_proper : Proper (row_step p) (squared_length p)
  unfolding row_step
  step_proper = proper (pos 16777216 *ℤ (p.x1 -ℤ p.x0))

  line_is_t : (x y j : ℕ) → (j + 1) * nat_abs (squared_length p) < line_parts
      → floor_div (in_parts (quotient_at p x y) (squared_length p) +ℤ in_parts (row_step p) (squared_length p) *ℤ pos j) line_parts ≡ linear_t p (x + j) y
  unfolding quotient_at row_step in_parts
  line_is_t x y j near =
      same_quotient (pos ramp_unit *ℤ projection p x y) (pos 16777216 *ℤ (p.x1 -ℤ p.x0)) (nat_abs (squared_length p)) j (positive p apart) near
      ∙ ap (λ (z : ℤ). floor_div z (nat_abs (squared_length p)))
      (sym (shifted (p.x1 -ℤ p.x0) p.x0 ((p.y1 -ℤ p.y0) *ℤ (centre y -ℤ p.y0)) x j))
      ∙ whole_is_t p apart (x + j) y

  pub line_same : (spread x y i : ℕ) → Pads spread → (i + 1) * nat_abs (squared_length p) < line_parts
      → floor_div (in_parts (quotient_at p x y) (squared_length p) +ℤ in_parts (row_step p) (squared_length p) *ℤ pos i) line_parts
      ≡ mapped spread (linear_t p (x + i) y)
  line_same spread x y i pads near =
      line_is_t x y i near ∙ sym (pads.same (linear_t p (x + i) y))

-- positions of equal t's
pub positions_same : (n : ℕ) (f g : ℕ → ℤ) → ((i : ℕ) → i < n → f i ≡ g i) → tab n (λ i. position_of (f i)) ≡ tab n (λ i. position_of (g i))
positions_same n f g h = upto_same n _ _ (λ i l. ap (λ (t : ℤ). position_of t ∷ []) (h i l))
