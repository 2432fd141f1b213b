-- `radial::inside` meets its contract: no step overflows, by the sizes of the parameters.
use Rattle.std.proofs.Common.{w64}
use Rattle.fixed.proofs.Means.{Num, need, keep, add, sub, mul}
use Rattle.paint.proofs.Sizes.{sized}
use Rattle.paint.proofs.radial.inside.Goals as goal

abbrev r : goal.Start → Num
r c = sized 16384 c.args.r tt c.requires.0

abbrev f : goal.Start → Num
f c = sized 32768 c.args.f tt c.requires.1

abbrev g : goal.Start → Num
g c = sized 32768 c.args.g tt c.requires.2

abbrev sum : goal.Start → Num
sum c = add (keep w64 (mul (f c) (f c)) tt) (keep w64 (mul (g c) (g c)) tt)

abbrev difference : goal.Start → Num
difference c = sub (keep w64 (mul (r c) (r c)) tt) (keep w64 (sum c) tt)

pub overflow_mul-result : goal.overflow_mul-result
overflow_mul-result c =
    need (mul (r c) (r c)) tt

pub overflow_mul-result-2 : goal.overflow_mul-result-2
overflow_mul-result-2 c =
    need (mul (f c) (f c)) tt

pub overflow_mul-result-3 : goal.overflow_mul-result-3
overflow_mul-result-3 c =
    need (mul (g c) (g c)) tt

pub overflow_add-result : goal.overflow_add-result
overflow_add-result c =
    need (sum c) tt

pub overflow_sub-result : goal.overflow_sub-result
overflow_sub-result c =
    need (difference c) tt

pub returns : goal.returns
returns c =
    (keep w64 (difference c) tt).same
