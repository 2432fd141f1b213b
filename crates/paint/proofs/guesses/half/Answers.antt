-- `guesses::half` does nothing undefined: both parts of n fit 32 bits.
use Rattle.std.proofs.Common.{arith, w64}
use Rattle.fixed.proofs.Means.{Num, need, keep, quot, rem, lit, tight}
use Rattle.paint.proofs.Sizes.{sized, quotient_size, rest_size}
use Rattle.paint.proofs.guesses.half.Goals as goal

abbrev n : goal.Start → Num
n c = sized 4611686018427387904 c.args.n tt (omega (arith, c.requires))

abbrev high : goal.Start → Num
high c = tight 2147483647 (quot (n c) (lit 2147483648)) (quotient_size 2147483648 2147483647 c.args.n (omega (arith, c.requires)))

abbrev low : goal.Start → Num
low c = tight 2147483647 (rem (n c) (lit 2147483648)) (rest_size 2147483648 2147483647 c.args.n (omega arith))

pub nonzero_div-high : goal.nonzero_div-high
nonzero_div-high c =
    (omega arith, need (high c) tt)

pub overflow_cast-high : goal.overflow_cast-high
overflow_cast-high c =
    need (keep w64 (high c) tt) tt

pub nonzero_rem-low : goal.nonzero_rem-low
nonzero_rem-low c =
    (omega arith, need (high c) tt)

pub overflow_cast-low : goal.overflow_cast-low
overflow_cast-low c =
    need (keep w64 (low c) tt) tt

pub nearest_i32_to_f32-requires : goal.nearest_i32_to_f32-requires
nearest_i32_to_f32-requires c =
    tt

pub nearest_i32_to_f32-requires-2 : goal.nearest_i32_to_f32-requires-2
nearest_i32_to_f32-requires-2 c =
    tt

pub returns : goal.returns
returns c =
    tt
