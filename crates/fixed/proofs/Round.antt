-- The laws of `floor_div`: d q ≤ z < d q + d, as facts that `omega` reads, and what a rounded quotient's size is.
use mathlib.Core.Path.{◌≡◌, sym, ap, subst}
use Prim.Native.Nat.{ℕ, suc, ◌+◌, ◌*◌, ◌/◌, ◌≤◌, ◌<◌}
use native.Mathlib.Nat.{div-add-mod, mod-lt, mul-lt-mul_of_pos_right, lt_of_le_of_lt, lt_of_mul-lt-mul_right, div-mul-le_self}
use native.Mathlib.Nat.{lt-suc_self, mul_right_comm, le-div_iff_mul-le, le_antisymm, mul-pos, zero-lt-suc}
use lib.Ieee.Nearest.{div_same}
use native.Mathlib.Omega.{arith}
use lib.Dec.{lit<}
use lib.IntN.{ℤ, pos, negsuc, nat_abs, ◌+ℤ◌, ◌*ℤ◌}
use Rattle.fixed.specs.Floor.{floor_div}
use Rattle.fixed.proofs.Within.{Within}
use Rattle.fixed.proofs.Poly.{Poly, up, dn, var, num, ◌⊕◌, ◌⊗◌, from_eq, within, from_within}

floor_law : (z : ℤ) (d : ℕ) → 0 < d
    → (d * up (floor_div z d) + dn z ≤ up z + d * dn (floor_div z d)) × (up z + d * dn (floor_div z d) < d * up (floor_div z d) + dn z + d)
floor_law (pos a) d h = omega (arith, div-add-mod a d, mod-lt a h)
floor_law (negsuc a) d h = omega (arith, div-add-mod a d, mod-lt a h)

pub from_floor : (r : Poly) (d : ℕ) → 0 < d
    → (d * up (floor_div r.int d) + r.n ≤ r.p + d * dn (floor_div r.int d))
    × (r.p + d * dn (floor_div r.int d) < d * up (floor_div r.int d) + r.n + d)
from_floor r d h = let f = floor_law r.int d h in (omega (arith, r.law, f.0), omega (arith, r.law, f.1))

-- z / 256 rounded to the nearest is at most b in size, if z is at most 256 b
pub within_round : {b : ℕ} {z : ℤ} → Within (256 * b) z → Within b (floor_div (z +ℤ pos 128) 256)
within_round {b} {z} h =
    let f = from_floor (var z ⊕ num 128) 256 (lit< tt) in
    let k = from_within (var z) h in
    within b (var (floor_div (z +ℤ pos 128) 256)) (omega arith) (omega arith)

-- ---- equal fractions have one floor
below_same : (a b d c : ℕ) → 0 < d → 0 < c → suc a * c ≡ suc b * d → a / d ≤ b / c
below_same a b d c hd hc e =
    let q = a / d in
    let l : q * d * c < suc b * d = subst (λ (x : ℕ). q * d * c < x) e (mul-lt-mul_of_pos_right (lt_of_le_of_lt (div-mul-le_self a d) (lt-suc_self a)) hc) in
    let m : q * c < suc b = lt_of_mul-lt-mul_right d (subst (λ (x : ℕ). x < suc b * d) (mul_right_comm q d c) l) in
    (le-div_iff_mul-le hc).1 (omega arith)

pub floor_same : (z w : ℤ) (d c : ℕ) → 0 < d → 0 < c → z *ℤ pos c ≡ w *ℤ pos d → floor_div z d ≡ floor_div w c
floor_same (pos a) (pos b) d c hd hc e = ap pos (div_same a d b c hd hc (ap nat_abs e))
floor_same (pos a) (negsuc b) d c hd hc e = absurd (omega (arith, from_eq (num a ⊗ num c) (var (negsuc b) ⊗ num d) e, mul-pos (zero-lt-suc b) hd))
floor_same (negsuc a) (pos b) d c hd hc e = absurd (omega (arith, from_eq (var (negsuc a) ⊗ num c) (num b ⊗ num d) e, mul-pos (zero-lt-suc a) hc))
floor_same (negsuc a) (negsuc b) d c hd hc e =
    let f : suc a * c ≡ suc b * d = omega (arith, from_eq (var (negsuc a) ⊗ num c) (var (negsuc b) ⊗ num d) e) in
    ap negsuc (le_antisymm (below_same a b d c hd hc f) (below_same b a c d hc hd (sym f)))
