-- `radial::under_root` meets its contract: no step overflows, by the sizes of the parameters.
use Rattle.std.proofs.Common.{◌≡◌, ℤ, ◌∙◌, w64}
use Rattle.fixed.proofs.Means.{Num, need, keep, said, add, sub, mul}
use Rattle.paint.specs.Radial.{across}
use Rattle.paint.proofs.Sizes.{sized}
use Rattle.paint.proofs.radial.under_root.Goals as goal

abbrev r : goal.After-across-b → Num
r c = sized 16384 c.args.r tt c.requires.0

abbrev dx : goal.After-across-b → Num
dx c = sized 32792 c.args.dx tt c.requires.1

abbrev dy : goal.After-across-b → Num
dy c = sized 32792 c.args.dy tt c.requires.2

abbrev f : goal.After-across-b → Num
f c = sized 32768 c.args.f tt c.requires.3

abbrev g : goal.After-across-b → Num
g c = sized 32768 c.args.g tt c.requires.4

abbrev bracket : goal.After-across-b → ℤ
bracket c = across c.args.dx c.args.dy c.args.f c.args.g

b-is : (c : goal.After-across-b) → c.across-b.result ≡ bracket c
b-is c = c.across-b.ensures.0 ∙ rw ((dx c).same, (dy c).same, (f c).same, (g c).same)

abbrev b : goal.After-across-b → Num
b c = said (sized 2149056512 c.across-b.result tt c.across-b.ensures.1) (bracket c) (b-is c)

abbrev sum : goal.After-across-b → Num
sum c = add (keep w64 (mul (dx c) (dx c)) tt) (keep w64 (mul (dy c) (dy c)) tt)

abbrev product : goal.After-across-b → Num
product c = mul (keep w64 (mul (r c) (r c)) tt) (keep w64 (sum c) tt)

abbrev difference : goal.After-across-b → Num
difference c = sub (keep w64 (product c) tt) (keep w64 (mul (b c) (b c)) tt)

pub overflow_mul-result : goal.overflow_mul-result
overflow_mul-result c =
    need (mul (r c) (r c)) tt

pub overflow_mul-result-2 : goal.overflow_mul-result-2
overflow_mul-result-2 c =
    need (mul (dx c) (dx c)) tt

pub overflow_mul-result-3 : goal.overflow_mul-result-3
overflow_mul-result-3 c =
    need (mul (dy c) (dy c)) tt

pub overflow_add-result : goal.overflow_add-result
overflow_add-result c =
    need (sum c) tt

pub overflow_mul-result-4 : goal.overflow_mul-result-4
overflow_mul-result-4 c =
    need (product c) tt

pub overflow_mul-result-5 : goal.overflow_mul-result-5
overflow_mul-result-5 c =
    need (mul (b c) (b c)) tt

pub overflow_sub-result : goal.overflow_sub-result
overflow_sub-result c =
    need (difference c) tt

pub returns : goal.returns
returns c =
    (keep w64 (difference c) tt).same
