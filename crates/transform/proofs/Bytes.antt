-- Numbers cut to 0..255.
use mathlib.Core.Path.{◌≡◌}
use Prim.Native.Nat.{◌≤◌}
use native.Mathlib.Omega.{arith}
use borrow.Author.Rules.{rules}
use lib.IntN.{ℤ, pos, negsuc, nat_abs}
use Rattle.std.proofs.lemmas.Grind.{common_steps}
use Rattle.std.specs.Int.{int_max, int_min}
use Rattle.transform.specs.Transforms.{byte_in}

pub byte_small : (z : ℤ) → byte_in z ≤ 255
byte_small (pos n) = omega arith
byte_small (negsuc n) = omega arith

-- cut by the library's clamp, where the local x means z
pub clamped : (x z : ℤ) → x ≡ z → nat_abs (int_max (pos 0) (int_min x (pos 255))) ≡ byte_in z
clamped x (pos n) e = rw e (search (rules, common_steps))
clamped x (negsuc n) e = rw e (search (rules, common_steps))
