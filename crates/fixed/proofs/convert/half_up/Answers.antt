-- `fixed::convert::half_up` meets its contract.
use mathlib.Core.Path.{◌≡◌, sym, ap, ◌∙◌, subst}
use Prim.Native.Nat.{ℕ, ◌+◌, ◌*◌, ◌%◌, ◌^◌, ◌≤◌, ◌<◌}
use native.Mathlib.Nat.{mod-eq_of_lt, lt_of_le_of_lt, one-mul}
use native.Mathlib.Omega.{arith}
use lib.Dec.{lit<}
use lib.Pow.{pow_mono, pow-add}
use lib.IntN.{pos, ◌+ℤ◌}
use lib.Signed.{shr_z}
use mir.Syntax.{w64}
use Rattle.fixed.proofs.Means.{Num, need, keep, small, of_nat, said, add, shr}
use Rattle.fixed.proofs.convert.half_up.Goals as goal

-- the shift keeps 2^s whole
power : (s : ℕ) → s < 42 → 1 * 2 ^ s % 2 ^ 64 ≡ 2 ^ s
power s h = mod-eq_of_lt (lt_of_le_of_lt (bound s h) (lit< tt)) ∙ one-mul (2 ^ s)
  where
    bound : (s : ℕ) → s < 42 → 1 * 2 ^ s ≤ 2 ^ 41
    bound s h = omega (arith, pow_mono {i = s} {j = 41} (omega arith))

power_le : (s : ℕ) → s < 42 → 1 * 2 ^ s % 2 ^ 64 ≤ 2 ^ 41
power_le s h = subst (λ (x : ℕ). x ≤ 2 ^ 41) (sym (power s h)) (pow_mono {i = s} {j = 41} (omega arith))

abbrev half : goal.Start → Num
half c =
    let s = c.args.s in
    said (of_nat w64 (1 * 2 ^ s % 2 ^ 64) (2 ^ 41) (power_le s c.requires.1) tt) (pos (2 ^ s)) (ap pos (power s c.requires.1))

abbrev sum : goal.Start → Num
sum c = add (small w64 2199023255552 c.args.z c.ranges.z (record { size = c.requires.0 })) (half c)

-- a shift by s + 1 divides by 2 * 2^s
shift : (s : ℕ) → 2 ^ (s + 1) ≡ 2 * 2 ^ s
shift s = pow-add 2 s 1 ∙ omega arith

pub overflow_cast-result : goal.overflow_cast-result
overflow_cast-result c =
    record { sfits = lt_of_le_of_lt (power_le c.args.s c.requires.1) (lit< tt) }

pub overflow_add-result : goal.overflow_add-result
overflow_add-result c =
    need (sum c) tt

pub returns : goal.returns
returns c =
    let s = c.args.s in
    (keep w64 (shr (keep w64 (sum c) tt) (2 ^ (s + 1))) tt).same ∙ ap (shr_z (c.args.z +ℤ pos (2 ^ s))) (shift s)
