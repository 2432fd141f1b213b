-- Which floats are numbers, so that they may be read as bits or converted: what is below something, a bit pattern of a moderate size, what is rounded, and a
-- sum with a finite number.
use Rattle.std.proofs.Common.{◌≡◌, ℕ, zero, suc, ◌+◌, ◌-◌, ◌*◌, ◌/◌, ◌%◌, ◌^◌, ◌≤◌, Bool, true, false, cond, not, ◌&&◌, T, ltb, ℤ, pos, negsuc, sym, refl}
use Rattle.std.proofs.Common.{◌∙◌, subst, arith, ltb→lt}
use mathlib.Core.Bool.{beq}
use Prim.Native.Nat.{compare}
use lib.Ieee.{Float, nan, inf, fin, Format, binary32, prec, emax, low, up, down, size, nearest, lt, is_nan, nan_bits, of_bits, odd, units, round, sum, add}
use lib.Ieee.{of_int}
use lib.Ieee.Bits.{nan_bits_above, nan_bits_is}

pub below_number : (x y : Float) → lt x y ≡ true → T (not (is_nan x))
unfolding lt is_nan
below_number nan y e = subst T (sym e) tt
below_number (inf s) y e = tt
below_number (fin s m d) y e = tt

either_number : (b : Bool) (x y : Float) → T (not (is_nan x)) → T (not (is_nan y)) → T (not (is_nan (cond b x y)))
either_number true x y h k = h
either_number false x y h k = k

infinite_number : (s : Bool) → T (not (is_nan (inf s)))
unfolding is_nan
infinite_number s = tt

odd_number : (d : ℕ) (s : Bool) (q k l : ℕ) → T (not (is_nan (odd d s q k l)))
unfolding odd is_nan
odd_number d s zero k l = tt
odd_number d s (suc q) k l = tt

units_number : (f : Format) (s : Bool) (q k : ℕ) → T (not (is_nan (units f s q k)))
unfolding units
units_number f s q k =
    either_number (ltb (q * 2 ^ k) (2 ^ (low f + suc (emax f)))) (odd (suc (prec f)) s q k (low f)) (inf s) (odd_number (suc (prec f)) s q k (low f))
    (infinite_number s)

round_number : (f : Format) (s : Bool) (n d : ℕ) → T (not (is_nan (round f s n d)))
unfolding round
round_number f s n d =
    let m = n * 2 ^ low f in
    let k = size (m / d) - prec f in
    let u = d * 2 ^ k in
    units_number f s (nearest (m / u) (compare (m % u * 2) u)) k

sum_number : (f : Format) (s : Bool) (a : ℕ) (t : Bool) (b c : ℕ) → T (not (is_nan (sum f s a t b c)))
unfolding sum
sum_number f s a t b c =
    let r = round f t (b - a) c in
    let l = round f (s && ltb b a) (a - b) c in
    either_number (beq s t) (round f s (a + b) c) (cond (ltb a b) r l) (round_number f s (a + b) c)
    (either_number (ltb a b) r l (round_number f t (b - a) c) (round_number f (s && ltb b a) (a - b) c))

pub added_number : (f : Format) (x : Float) (t : Bool) (n : ℕ) (d : ℤ) → T (not (is_nan x)) → T (not (is_nan (add f x (fin t n d))))
unfolding add
added_number f nan t n d h = h
added_number f (inf s) t n d h = infinite_number s
added_number f (fin s m e) t n d h = sum_number f s (m * up e * down d) t (n * up d * down e) (down e * down d)

pub whole_number : (f : Format) (z : ℤ) → T (not (is_nan (of_int f z)))
unfolding of_int
whole_number f (pos n) = round_number f false n 1
whole_number f (negsuc n) = round_number f true (suc n) 1

-- the infinity's pattern is 2,139,095,040
pub moderate_bits : (n : ℕ) → n ≤ 1593268870 → nan_bits binary32 n ≡ false
moderate_bits n h = nan_bits_above binary32 n ∙ by (ltb 2139095040 (n % 2147483648)) refl
  where
    by : (t : Bool) → ltb 2139095040 (n % 2147483648) ≡ t → t ≡ false
    by true e = absurd (omega (arith, h, ltb→lt 2139095040 (n % 2147483648) (subst T (sym e) tt)))
    by false e = refl

pub bits_number : (n : ℕ) → n ≤ 1593268870 → T (not (is_nan (of_bits binary32 n)))
bits_number n h = subst (λ (b : Bool). T (not b)) (sym (moderate_bits n h) ∙ nan_bits_is binary32 n) tt
