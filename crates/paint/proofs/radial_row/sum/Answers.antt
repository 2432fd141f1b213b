-- `radial_row::sum` meets its contract.
use Rattle.std.proofs.Common.{w64}
use Rattle.fixed.proofs.Means.{Num, need, keep, add}
use Rattle.paint.proofs.Sizes.{sized}
use Rattle.paint.proofs.radial_row.sum.Goals as goal

abbrev it : goal.Start → Num
it c = add (sized 2305843009213693952 c.args.a tt c.requires.0) (sized 2305843009213693952 c.args.b tt c.requires.1)

pub overflow_add-result : goal.overflow_add-result
overflow_add-result c =
    need (it c) tt

pub returns : goal.returns
returns c =
    (keep w64 (it c) tt).same
