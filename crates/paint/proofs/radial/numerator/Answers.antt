-- `radial::numerator` meets its contract: A is not below -q.
use Rattle.std.proofs.Common.{sym, arith, w64}
use Rattle.fixed.proofs.Means.{Num, need, keep, of_nat, add}
use Rattle.paint.proofs.Sizes.{sized}
use Rattle.paint.proofs.Focal.{natural_cast, sum_not_negative}
use Rattle.paint.proofs.radial.numerator.Goals as goal

abbrev sum : goal.Start → Num
sum c = add (sized 1073741824 c.args.a tt (omega arith)) (of_nat w64 c.args.q 1073741824 c.requires.1 tt)

pub overflow_add-result : goal.overflow_add-result
overflow_add-result c =
    need (sum c) tt

pub overflow_cast-result-2 : goal.overflow_cast-result-2
overflow_cast-result-2 c =
    rw (keep w64 (sum c) tt).same
    (natural_cast _ (sum_not_negative c.args.a c.args.q c.requires.0), record { fits = omega (arith, (sum c).size.size) })

pub returns : goal.returns
returns c =
    rw (keep w64 (sum c) tt).same (sym (sum_not_negative c.args.a c.args.q c.requires.0), (sum c).size.size)
