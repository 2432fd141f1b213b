-- `chord::less_squared` meets its contract: no step overflows, by the sizes of the parameters.
use Rattle.std.proofs.Common.{w64}
use Rattle.fixed.proofs.Means.{Num, need, keep, sub, mul}
use Rattle.paint.proofs.Sizes.{sized}
use Rattle.paint.proofs.chord.less_squared.Goals as goal

abbrev r : goal.Start → Num
r c = sized 16384 c.args.r tt c.requires.0

abbrev e : goal.Start → Num
e c = sized 32776 c.args.e tt c.requires.1

abbrev difference : goal.Start → Num
difference c = sub (keep w64 (mul (r c) (r c)) tt) (keep w64 (mul (e c) (e c)) tt)

pub overflow_mul-result : goal.overflow_mul-result
overflow_mul-result c =
    need (mul (r c) (r c)) tt

pub overflow_mul-result-2 : goal.overflow_mul-result-2
overflow_mul-result-2 c =
    need (mul (e c) (e c)) tt

pub overflow_sub-result : goal.overflow_sub-result
overflow_sub-result c =
    need (difference c) tt

pub returns : goal.returns
returns c =
    ((keep w64 (difference c) tt).same, rw (keep w64 (difference c) tt).same (difference c).size.size)
