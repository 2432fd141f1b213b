-- The number that w bits are in two's complement is in the range of the signed type of w bits.
use mathlib.Core.Bool.{Bool, true, false, not, cond}
use Prim.Native.Nat.{ℕ, ◌*◌, ◌^◌, ◌≤◌, ◌<◌}
use native.Mathlib.Omega.{arith}
use lib.Dec.{T, ltb, ltb→lt, nltb→le}
use lib.IntN.{pos, ◌-ℤ◌}
use mir.Syntax.{Width}
use mir.Val.{SFits, hbits}
use Rattle.fixed.specs.Little.{signed}
use Rattle.fixed.proofs.Poly as P
use Rattle.fixed.proofs.Poly.{◌⊖◌}

pub signed_fits : (w : Width) (n : ℕ) → n < 2 ^ hbits w * 2 → SFits w (signed (2 ^ hbits w) n)
signed_fits w n h = by (ltb n (2 ^ hbits w)) (ltb→lt n (2 ^ hbits w)) (nltb→le n (2 ^ hbits w))
  where
    by : (t : Bool) → (T t → n < 2 ^ hbits w) → (T (not t) → 2 ^ hbits w ≤ n) → SFits w (cond t (pos n) (pos n -ℤ pos (2 ^ hbits w * 2)))
    by true f g = record { sfits = f tt }
    by false f g = let l = g tt in P.fits w (P.num n ⊖ P.num (2 ^ hbits w * 2)) (omega arith) (omega arith)
