-- `gradient::square` meets its contract: no step overflows, by the sizes of the parameters.
use Rattle.std.proofs.Common.{w64}
use Rattle.fixed.proofs.Means.{Num, need, keep, sub, mul}
use Rattle.paint.proofs.Sizes.{sized}
use Rattle.paint.proofs.gradient.square.Goals as goal

abbrev apart : goal.Start → Num
apart c = sub (sized 1048576 c.args.a tt c.requires.0) (sized 1048576 c.args.b tt c.requires.1)

abbrev squared : goal.Start → Num
squared c = mul (keep w64 (apart c) tt) (keep w64 (apart c) tt)

pub overflow_sub-result : goal.overflow_sub-result
overflow_sub-result c =
    need (apart c) tt

pub overflow_sub-result-2 : goal.overflow_sub-result-2
overflow_sub-result-2 c =
    need (apart c) tt

pub overflow_mul-result : goal.overflow_mul-result
overflow_mul-result c =
    need (squared c) tt

pub returns : goal.returns
returns c =
    ((keep w64 (squared c) tt).same, rw (keep w64 (squared c) tt).same (squared c).size.size)
