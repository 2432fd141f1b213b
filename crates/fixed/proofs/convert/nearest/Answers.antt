-- `fixed::convert::nearest` meets its contract.
use mathlib.Core.Path.{sym, ap, ◌∙◌, subst}
use mathlib.Core.Bool.{Bool}
use Prim.Native.Nat.{ℕ, ◌*◌, ◌^◌, ◌≤◌, ◌<◌}
use native.Mathlib.Nat.{mul-le-mul}
use native.Mathlib.Omega.{arith}
use borrow.Author.Rules.{sfits_of}
use lib.Dec.{T, leb, ltb}
use lib.Pow.{pow_mono}
use lib.IntN.{ℤ, pos, nat_abs, ◌+ℤ◌}
use mir.Syntax.{w64}
use mir.Val.{to_z, of_z}
use mir.Facts.{to_z-of_z}
use Rattle.fixed.specs.Floor.{floor_div}
use Rattle.fixed.specs.Floats.{nearest_of}
use Rattle.fixed.proofs.Means.{Num, need, keep, of_nat, lit, sub, mul}
use Rattle.fixed.proofs.Within.{within_widen}
use Rattle.fixed.proofs.Signed.{neg_is}
use Rattle.fixed.proofs.Nearest.{nearest_zero}
use Rattle.fixed.proofs.convert.nearest.Goals as goal

-- less than a half
small : (m scale s : ℕ) → m < 16777216 → scale ≤ 65536 → 42 ≤ s → 2 * (scale * m) < 2 ^ s
small m scale s h k l = omega (arith, mul-le-mul {n₂ = 65536} {m₂ = 16777215} k (returns-then-neg m h), pow_mono {i = 42} {j = s} l)
  where
    returns-then-neg : (m : ℕ) → m < 16777216 → m ≤ 16777215
    returns-then-neg m h = omega arith

abbrev product : goal.Else-s-ge42 → Num
product c = mul (of_nat w64 c.args.scale 65536 c.requires.1 tt) (of_nat w64 c.args.m 16777215 (omega (arith, c.requires.0)) tt)

abbrev twice : goal.Else-s-ge42 → Num
twice c = mul (lit 2) (keep w64 (product c) tt)

abbrev minus : goal.Else-s-ge42 → Num
minus c = sub (lit 0) (keep w64 (twice c) tt)

held_small : (r : Num) → T (ltb r.bound (2 ^ 63)) → T (leb r.bound 2199023255552) → nat_abs (to_z w64 (of_z w64 r.read)) ≤ 2199023255552
held_small r t u = subst (λ (z : ℤ). nat_abs z ≤ 2199023255552) (sym (keep w64 r t).same) (within_widen u r.size).size

pub returns-then-s-ge42 : goal.returns-then-s-ge42
returns-then-s-ge42 c =
    let a = c.args in
    nearest_zero a.neg (a.scale * a.m) (2 ^ a.s) (small a.m a.scale a.s c.requires.0 c.requires.1 c.if-s-ge42.true)

pub overflow_mul-twice-2 : goal.overflow_mul-twice-2
overflow_mul-twice-2 c =
    need (twice c) tt

pub overflow_sub-twice : goal.overflow_sub-twice
overflow_sub-twice c =
    need (minus c.before) tt

pub half_up-requires : goal.half_up-requires
half_up-requires c =
    (held_small (minus c.before) tt tt, c.if-s-ge42.false)

pub half_up-requires-else-neg : goal.half_up-requires-else-neg
half_up-requires-else-neg c =
    (held_small (twice c.before) tt tt, c.if-s-ge42.false)

pub returns-then-neg : goal.returns-then-neg
returns-then-neg c =
    let a = c.args in
    to_z-of_z {w = w64} (sfits_of c.half_up.type_inv) ∙ c.half_up.ensures
    ∙ ap (λ (z : ℤ). floor_div (z +ℤ pos (2 ^ a.s)) (2 * 2 ^ a.s)) ((keep w64 (minus c.before.before) tt).same ∙ neg_is (2 * (a.scale * a.m)))
    ∙ ap (λ (b : Bool). nearest_of b (a.scale * a.m) (2 ^ a.s)) (sym c.if-neg.true)
