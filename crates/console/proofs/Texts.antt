-- The text that std writes for a number has that number's digits.
use Prim.Native.Nat.{ℕ, zero, suc, ◌+◌, ◌-◌, ◌*◌, ◌/◌, ◌%◌, ◌^◌, ◌≤◌, ◌<◌}
use native.Mathlib.Nat.{pow-zero, pow-suc, pow-le-pow_right, le-div_iff_mul-le, div-lt_iff_lt-mul}
use native.Mathlib.Numerals.{unary_clauses}
use native.Mathlib.Omega.{arith}
use mathlib.Core.Bool.{true, false}
use mathlib.Core.List.{List, [], ◌∷◌, ◌++◌}
use mathlib.Core.Logic.{◌⊎◌, inl, inr, ◌≢◌}
use mathlib.Core.Path.{◌≡◌, refl, sym, ap}
use lib.Dec.{eqb}
use lib.ListN.{length, replicate}
use Rattle.std.proofs.Common.{append_assoc, append-nil, length-append, add-one}
use Rattle.std.proofs.lemmas.Bool.{cases_order}
use Rattle.std.proofs.lemmas.Bool.Decides.{eqb_tells}
use Rattle.std.proofs.lemmas.List.{replicate_more}
use Rattle.std.specs.Fmt.{digits, digits_onto, padded_integral, format_spec, char_count, decimal}
use Rattle.console.specs.Digits.{hex_digit_ascii, last_digits, IsDigitCount, IsNumberText}

-- with one digit more of n than of what is left without its last one
front_below : (b n j : ℕ) → 1 < b → 0 < n / b → IsDigitCount b 1 (n / b) j → b ^ (j - 1) ≤ n / b
front_below b n zero h some c = absurd (omega (arith, c.0))
front_below b n (suc zero) h some c = rw (pow-zero b) (omega arith)
front_below b n (suc (suc i)) h some c = c.2 (omega arith)

one_more : (b n j : ℕ) → 1 < b → 0 < n / b → IsDigitCount b 1 (n / b) j → IsDigitCount b 1 n (suc j)
one_more b n zero h some c = absurd (omega (arith, c.0))
one_more b n (suc i) h some c =
    let base : 0 < b = omega arith in
    let below : n < b ^ suc i * b = (div-lt_iff_lt-mul base).0 c.1 in
    let front : b ^ i ≤ n / b = simp unary_clauses at (front_below b n (suc i) h some c) in
    let least : b ^ i * b ≤ n = (le-div_iff_mul-le base).0 front in
    (omega arith, rw (pow-suc b (suc i)) below, λ _. simp unary_clauses least)

-- what std's digits are, put before others
abbrev Onto : ℕ → ℕ → List ℕ → List ℕ → Type 0
Onto b n acc text = (k : ℕ) × IsDigitCount b 1 n k × (text ≡ last_digits b k n ++ acc)

onto_last : (b n : ℕ) (acc : List ℕ) → 1 < b → n / b ≡ 0 → Onto b n acc (hex_digit_ascii (n % b) ∷ acc)
onto_last b n acc h none =
    let base : 0 < b = omega arith in
    let left : n / b < 1 = omega arith in
    let below : n < 1 * b = (div-lt_iff_lt-mul base).0 left in
    (1, (omega arith, rw (pow-suc b 0, pow-zero b) below, λ over. absurd (omega arith)), refl)

onto_more : (b n : ℕ) (acc text : List ℕ) → 1 < b → 0 < n / b → Onto b (n / b) (hex_digit_ascii (n % b) ∷ acc) text → Onto b n acc text
onto_more b n acc text h some (k, count, e) =
    (suc k, one_more b n k h some count, rw append_assoc e)

within : (b n fuel : ℕ) → 1 < b → n < b ^ suc fuel → n / b < b ^ fuel
within b n fuel h fits = (div-lt_iff_lt-mul (omega arith)).1 (rw (pow-suc b fuel) at fits)

none_left : (b n : ℕ) → 1 < b → n < b ^ 1 → n / b < 1
none_left b n h fits = rw (pow-zero b) at (within b n 0 h fits)

onto_by : (b fuel n : ℕ) (acc : List ℕ) → 1 < b → ((eqb (n / b) 0 ≡ true) × (n / b ≡ 0)) ⊎ ((eqb (n / b) 0 ≡ false) × (n / b ≢ 0))
    → (0 < n / b → Onto b (n / b) (hex_digit_ascii (n % b) ∷ acc) (digits_onto fuel b false (n / b) (hex_digit_ascii (n % b) ∷ acc)))
    → Onto b n acc (digits_onto (suc fuel) b false n acc)
onto_by b fuel n acc h (inl (e, none)) more = rw e (onto_last b n acc h none)
onto_by b fuel n acc h (inr (e, some)) more = rw e (onto_more b n acc _ h (omega arith) (more (omega arith)))

onto : (b fuel n : ℕ) (acc : List ℕ) → 1 < b → n < b ^ fuel → 0 < fuel → Onto b n acc (digits_onto fuel b false n acc)
onto b zero n acc h fits some = absurd (omega arith)
onto b (suc zero) n acc h fits some = onto_by b zero n acc h (eqb_tells (n / b) 0) (λ left. absurd (omega (arith, none_left b n h fits)))
onto b (suc (suc fuel)) n acc h fits some =
    onto_by b (suc fuel) n acc h (eqb_tells (n / b) 0)
    (λ left. onto b (suc fuel) (n / b) (hex_digit_ascii (n % b) ∷ acc) h (within b n (suc fuel) h fits) (omega arith))

plain : (b n : ℕ) (text : List ℕ) → Onto b n [] text → IsNumberText b 1 n text
plain b n text (k, count, e) = (k, count, rw append-nil at e)

pub number_text : (b n : ℕ) → 1 < b → n < b ^ 64 → IsNumberText b 1 n (digits b false n)
unfolding digits
number_text b n h fits = plain b n _ (onto b 64 n [] h fits (omega arith))

-- what `{}` writes
pub decimal_text : (n : ℕ) (text : List ℕ) → n < 2 ^ 64 → text ≡ decimal n → IsNumberText 10 1 n text
decimal_text n text fits e = rw e (number_text 10 n (omega arith) (omega arith))

-- zeros in front
zeros_only : (b d : ℕ) → 1 < b → last_digits b d 0 ≡ replicate d 48
zeros_only b zero h = refl
zeros_only b (suc d) h =
    let q : 0 / b ≡ 0 = omega arith in
    let r : 0 % b ≡ 0 = omega arith in
    rw (q, r, zeros_only b d h, replicate_more {X = ℕ} d 48) (ap (λ (m : ℕ). replicate m 48) (add-one d))

zeros : (b d k n : ℕ) → 1 < b → n < b ^ k → last_digits b (d + k) n ≡ replicate d 48 ++ last_digits b k n
zeros b d zero n h fits =
    let one : n < 1 = rw (pow-zero b) at fits in
    let z : n ≡ 0 = omega arith in
    let e : d + 0 ≡ d = omega arith in
    rw (e, z, append-nil) (zeros_only b d h)
zeros b d (suc k) n h fits =
    let e : d + suc k ≡ suc (d + k) = omega arith in
    rw (e, zeros b d k (n / b) h (within b n k h fits), append_assoc)

padded_zeros : (w : ℕ) (numeral : List ℕ) → padded_integral (format_spec 32 0 4 w (2 ^ 64 - 1)) false [] numeral ≡ replicate (w - length numeral) 48 ++ numeral
unfolding padded_integral char_count
padded_zeros w numeral = simp (append-nil, unary_clauses)

length-last_digits : (b k n : ℕ) → length (last_digits b k n) ≡ k
length-last_digits b zero n = refl
length-last_digits b (suc k) n = rw (length-append, length-last_digits b k (n / b)) (add-one k)

wider_within : (b w k n : ℕ) → 1 < b → IsDigitCount b 1 n k → k ≤ w → IsNumberText b w n (replicate (w - k) 48 ++ last_digits b k n)
wider_within b w k n h count under =
    let e : w - k + k ≡ w = omega arith in
    let more : b ^ k ≤ b ^ w = pow-le-pow_right (omega arith) under in
    (w, (omega arith, omega (arith, count.1), λ over. absurd (omega arith)), sym (rw e at (zeros b (w - k) k n h count.1)))

wider_past : (b w k n : ℕ) → 0 < w → IsDigitCount b 1 n k → w ≤ k → IsNumberText b w n (replicate (w - k) 48 ++ last_digits b k n)
wider_past b w k n some count over =
    let e : w - k ≡ 0 = omega arith in
    (k, (omega arith, count.1, λ past. count.2 (omega arith)), rw e refl)

wider : (b w k n : ℕ) → 1 < b → 0 < w → IsDigitCount b 1 n k → (k ≡ w) ⊎ ((k < w) ⊎ (w < k))
    → IsNumberText b w n (replicate (w - k) 48 ++ last_digits b k n)
wider b w k n h some count (inl e) = wider_within b w k n h count (omega arith)
wider b w k n h some count (inr (inl e)) = wider_within b w k n h count (omega arith)
wider b w k n h some count (inr (inr e)) = wider_past b w k n some count (omega arith)

-- what `{:0w$x}` writes
pub hex_text : (w n : ℕ) (text : List ℕ) → 0 < w → n < 2 ^ 64 → text ≡ padded_integral (format_spec 32 0 4 w (2 ^ 64 - 1)) false [] (digits 16 false n)
    → IsNumberText 16 w n text
hex_text w n text some fits e = by (number_text 16 n (omega arith) (omega arith)) where
  by : IsNumberText 16 1 n (digits 16 false n) → IsNumberText 16 w n text
  by (k, count, d) = rw (e, padded_zeros w (digits 16 false n), d, length-last_digits 16 k n) (wider 16 w k n (omega arith) some count (cases_order k w))
