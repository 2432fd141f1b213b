-- `gradient::along` meets its contract: no step overflows, by the sizes of the parameters.
use Rattle.std.proofs.Common.{◌+◌, ◌*◌, arith, w64}
use Rattle.fixed.proofs.Means.{Num, need, keep, of_nat, sub, mul}
use Rattle.paint.proofs.Sizes.{sized}
use Rattle.paint.proofs.gradient.along.Goals as goal

abbrev first : goal.Start → Num
first c = sized 1048576 c.args.a0 tt c.requires.0

abbrev apart : goal.Start → Num
apart c = sub (sized 1048576 c.args.a1 tt c.requires.1) (first c)

abbrev from_first : goal.Start → Num
from_first c = sub (of_nat w64 (256 * c.args.x + 128) 262272 (omega arith) tt) (first c)

abbrev product : goal.Start → Num
product c = mul (keep w64 (apart c) tt) (keep w64 (from_first c) tt)

pub overflow_sub-result : goal.overflow_sub-result
overflow_sub-result c =
    need (apart c) tt

pub overflow_sub-result-2 : goal.overflow_sub-result-2
overflow_sub-result-2 c =
    need (from_first c) tt

pub overflow_mul-result-2 : goal.overflow_mul-result-2
overflow_mul-result-2 c =
    need (product c) tt

pub returns : goal.returns
returns c =
    ((keep w64 (product c) tt).same, rw (keep w64 (product c) tt).same (product c).size.size)
