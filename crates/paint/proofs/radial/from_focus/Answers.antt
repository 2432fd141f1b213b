-- `radial::from_focus` meets its contract: no step overflows, by the sizes of the parameters.
use Rattle.std.proofs.Common.{◌+◌, ◌*◌, arith, w64}
use Rattle.fixed.proofs.Means.{Num, need, keep, of_nat, sub}
use Rattle.paint.proofs.Sizes.{sized}
use Rattle.paint.proofs.radial.from_focus.Goals as goal

abbrev it : goal.Start → Num
it c = sub (of_nat w64 (16 * c.args.x + 8) 16392 (omega arith) tt) (sized 16384 c.args.f tt c.requires.1)

pub overflow_sub-result : goal.overflow_sub-result
overflow_sub-result c =
    need (it c) tt

pub returns : goal.returns
returns c =
    ((keep w64 (it c) tt).same, rw (keep w64 (it c) tt).same (it c).size.size)
