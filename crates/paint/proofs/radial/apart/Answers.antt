-- `radial::apart` meets its contract: no step overflows, by the sizes of the parameters.
use Rattle.std.proofs.Common.{w64}
use Rattle.fixed.proofs.Means.{Num, need, keep, sub}
use Rattle.paint.proofs.Sizes.{sized}
use Rattle.paint.proofs.radial.apart.Goals as goal

abbrev it : goal.Start → Num
it c = sub (sized 16384 c.args.f tt c.requires.0) (sized 16384 c.args.c tt c.requires.1)

pub overflow_sub-result : goal.overflow_sub-result
overflow_sub-result c =
    need (it c) tt

pub returns : goal.returns
returns c =
    ((keep w64 (it c) tt).same, rw (keep w64 (it c) tt).same (it c).size.size)
