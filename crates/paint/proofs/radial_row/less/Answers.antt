-- `radial_row::less` meets its contract.
use Rattle.std.proofs.Common.{w64}
use Rattle.fixed.proofs.Means.{Num, need, keep, sub}
use Rattle.paint.proofs.Sizes.{sized}
use Rattle.paint.proofs.radial_row.less.Goals as goal

abbrev it : goal.Start → Num
it c = sub (sized 2305843009213693952 c.args.a tt c.requires.0) (sized 2305843009213693952 c.args.b tt c.requires.1)

pub overflow_sub-result : goal.overflow_sub-result
overflow_sub-result c =
    need (it c) tt

pub returns : goal.returns
returns c =
    (keep w64 (it c) tt).same
