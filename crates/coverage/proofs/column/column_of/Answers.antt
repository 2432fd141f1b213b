-- `coverage::column::column_of` meets its contract. Assumes nothing.
use mathlib.Core.Path.{refl, ap₂, ◌∙◌}
use Prim.Native.Nat.{◌+◌, ◌*◌}
use native.Mathlib.Omega.{arith}
use lib.IntN.{ℤ, nat_abs}
use mir.Syntax.{w64}
use Rattle.fixed.proofs.Means.{Num, need, keep, small, lit, of_nat, sub, mul}
use Rattle.coverage.specs.Scanline.{ceil_div, place}
use Rattle.coverage.proofs.column.column_of.Goals.{Start}
use Rattle.coverage.proofs.column.column_of.Goals as goal

abbrev n : Start → Num
n c = small w64 562949953421312 c.args.n c.ranges.n (record { size = c.requires.2 })

abbrev d : Start → Num
d c = small w64 16777216 c.args.d c.ranges.d (record { size = c.requires.1 })

abbrev w : Start → Num
w c = mul (lit 64) (d c)

abbrev low : Start → Num
low c = mul (of_nat w64 c.args.c 2147483648 (omega arith) tt) (keep w64 (w c) tt)

abbrev last : Start → Num
last c = sub (of_nat w64 (c.args.c + c.args.k) 2147483648 (omega arith) tt) (lit 1)

abbrev high : Start → Num
high c = mul (keep w64 (last c) tt) (keep w64 (w c) tt)

pub overflow_mul-w : goal.overflow_mul-w
overflow_mul-w c =
    need (w c) tt

pub overflow_mul-c : goal.overflow_mul-c
overflow_mul-c c =
    need (low c) tt

pub overflow_sub-c : goal.overflow_sub-c
overflow_sub-c c =
    need (last c) tt

pub overflow_mul-c-2 : goal.overflow_mul-c-2
overflow_mul-c-2 c =
    need (high c) tt

pub column_at-requires : goal.column_at-requires
column_at-requires c =
    record {
      pos_bound = rw ((n c).same, (d c).same) c.requires;
      low_value = rw ((keep w64 (low c) tt).same, (keep w64 (high c) tt).same, (d c).same) (refl, refl);
    }

pub returns : goal.returns
returns c =
    c.column_at.ensures ∙ ap₂ (λ (m z : ℤ). place c.args.c c.args.k (ceil_div m (64 * nat_abs z))) (n c.before).same (d c.before).same
