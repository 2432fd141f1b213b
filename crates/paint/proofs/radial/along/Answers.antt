-- `radial::along` meets its contract: no step overflows, by the sizes of the parameters.
use Rattle.std.proofs.Common.{w64}
use Rattle.fixed.proofs.Means.{Num, need, keep, add, mul}
use Rattle.paint.proofs.Sizes.{sized}
use Rattle.paint.proofs.radial.along.Goals as goal

abbrev dx : goal.Start → Num
dx c = sized 32792 c.args.dx tt c.requires.0

abbrev dy : goal.Start → Num
dy c = sized 32792 c.args.dy tt c.requires.1

abbrev f : goal.Start → Num
f c = sized 32768 c.args.f tt c.requires.2

abbrev g : goal.Start → Num
g c = sized 32768 c.args.g tt c.requires.3

abbrev first : goal.Start → Num
first c = mul (dx c) (f c)

abbrev second : goal.Start → Num
second c = mul (dy c) (g c)

abbrev sum : goal.Start → Num
sum c = add (keep w64 (first c) tt) (keep w64 (second c) tt)

pub overflow_mul-result : goal.overflow_mul-result
overflow_mul-result c =
    need (first c) tt

pub overflow_mul-result-2 : goal.overflow_mul-result-2
overflow_mul-result-2 c =
    need (second c) tt

pub overflow_add-result : goal.overflow_add-result
overflow_add-result c =
    need (sum c) tt

pub returns : goal.returns
returns c =
    (keep w64 (sum c) tt).same
