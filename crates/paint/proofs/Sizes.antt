-- Signed numbers of 64 bits of which a size is known: parameters, fields and calls' results.
use Rattle.std.proofs.Common.{◌≡◌, ℕ, suc, ◌/◌, ◌%◌, ◌^◌, ◌≤◌, T, ltb, ℤ, pos, negsuc, nat_abs, sym, ap, ◌∙◌, w64, to_z}
use Rattle.std.proofs.Common.{of_z}
use lib.Signed.{quot_z, rem_z}
use Rattle.fixed.proofs.Means.{Num}
use Rattle.fixed.proofs.Within.{Within, abs_neg}
use Rattle.fixed.proofs.Signed.{clean}

-- as a `Num` of the laws on signed numbers
abbrev pub sized : (n : ℕ) (z : ℤ) → T (ltb n (2 ^ 63)) → nat_abs z ≤ n → Num
sized n z t h = record { bound = n; read = to_z w64 (of_z w64 z); int = z; same = clean w64 n z t h; size = record { size = h } }

pub still_sized : (n : ℕ) (z : ℤ) → T (ltb n (2 ^ 63)) → nat_abs z ≤ n → nat_abs (to_z w64 (of_z w64 z)) ≤ n
still_sized n z t h = rw (clean w64 n z t h) h

-- a test of two such numbers compares their bits
pub same_bits : (n : ℕ) (a b : ℤ) → T (ltb n (2 ^ 63)) → nat_abs a ≤ n → nat_abs b ≤ n → of_z w64 a ≡ of_z w64 b → a ≡ b
same_bits n a b t h k e = sym (clean w64 n a t h) ∙ ap (to_z w64) e ∙ clean w64 n b t k

-- the size of a quotient and of a rest
pub quotient_size : (m b : ℕ) (z : ℤ) → nat_abs z / m ≤ b → Within b (quot_z z (pos m))
quotient_size m b (pos n) h = record { size = h }
quotient_size m b (negsuc n) h = record { size = rw (abs_neg (pos (suc n / m))) h }

pub rest_size : (m b : ℕ) (z : ℤ) → nat_abs z % m ≤ b → Within b (rem_z z (pos m))
rest_size m b (pos n) h = record { size = h }
rest_size m b (negsuc n) h = record { size = rw (abs_neg (pos (suc n % m))) h }
