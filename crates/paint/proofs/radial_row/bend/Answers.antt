-- `radial_row::bend` meets its contract.
use Rattle.std.proofs.Common.{w64}
use Rattle.fixed.proofs.Means.{Num, need, keep, lit, sub, mul}
use Rattle.paint.proofs.Sizes.{sized}
use Rattle.paint.proofs.radial_row.bend.Goals as goal

abbrev r : goal.Start → Num
r c = sized 16384 c.args.r tt c.requires.0

abbrev g : goal.Start → Num
g c = sized 32768 c.args.g tt c.requires.1

abbrev difference : goal.Start → Num
difference c = sub (keep w64 (mul (r c) (r c)) tt) (keep w64 (mul (g c) (g c)) tt)

abbrev product : goal.Start → Num
product c = mul (lit 512) (keep w64 (difference c) tt)

pub overflow_mul-result : goal.overflow_mul-result
overflow_mul-result c =
    need (mul (r c) (r c)) tt

pub overflow_mul-result-2 : goal.overflow_mul-result-2
overflow_mul-result-2 c =
    need (mul (g c) (g c)) tt

pub overflow_sub-result : goal.overflow_sub-result
overflow_sub-result c =
    need (difference c) tt

pub overflow_mul-result-3 : goal.overflow_mul-result-3
overflow_mul-result-3 c =
    need (product c) tt

pub returns : goal.returns
returns c =
    (keep w64 (product c) tt).same
