-- `ramp::mix_byte` meets its contract: the products fit 24 bits, and the result lies between the two channels.
use Rattle.std.proofs.Common.{◌-◌, ◌*◌, ◌≤◌, sym, refl, mul-le-mul, arith}
use Rattle.paint.proofs.Mix.{mix_below, mix_same}
use Rattle.paint.proofs.ramp.mix_byte.Goals as goal

left : (c : goal.Else-ci-cj) → c.args.ci * (c.args.xj - c.args.t) ≤ 255 * 65536
left c = mul-le-mul {n₁ = c.args.ci} {m₁ = c.args.xj - c.args.t} {n₂ = 255} {m₂ = 65536} (omega arith) (omega arith)

right : (c : goal.Else-ci-cj) → c.args.cj * (c.args.t - c.args.xi) ≤ 255 * 65536
right c = mul-le-mul {n₁ = c.args.cj} {m₁ = c.args.t - c.args.xi} {n₂ = 255} {m₂ = 65536} (omega arith) (omega arith)

pub returns-then-ci-cj : goal.returns-then-ci-cj
returns-then-ci-cj c =
    let a = c.args in
    sym (mix_same a.xi a.xj a.t a.ci a.cj c.requires.0 c.requires.1 c.if-ci-cj.true)

pub overflow_mul-result : goal.overflow_mul-result
overflow_mul-result c =
    omega (arith, left c)

pub overflow_mul-result-2 : goal.overflow_mul-result-2
overflow_mul-result-2 c =
    omega (arith, right c)

pub overflow_add-result : goal.overflow_add-result
overflow_add-result c =
    omega (arith, left c, right c)

pub overflow_add-result-2 : goal.overflow_add-result-2
overflow_add-result-2 c =
    omega (arith, left c, right c)

pub overflow_cast-result-3 : goal.overflow_cast-result-3
overflow_cast-result-3 c =
    let a = c.args in
    omega (arith, mix_below a.xi a.xj a.t a.ci a.cj c.requires.0 c.requires.1 255 (omega arith) (omega arith))

pub returns : goal.returns
returns c =
    refl
