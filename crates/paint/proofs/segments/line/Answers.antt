-- `segments::line` meets its contract.
use Rattle.std.proofs.Common.{ℕ, ◌+◌, ◌*◌, ◌/◌, ◌≤◌, pos, ◌-ℤ◌, ◌*ℤ◌, ap, ◌∙◌, mul-le-mul, arith, w64}
use Rattle.fixed.proofs.Means.{Num, need, keep, sub, mul, of_nat}
use Rattle.paint.specs.Segments.{line_of}
use Rattle.paint.proofs.Lines.{reciprocal_small, first_small}
use Rattle.paint.proofs.segments.line.Goals as goal

product : (c : goal.Start) → c.args.ci * c.args.d ≤ 255 * 65536
product c = mul-le-mul {n₁ = c.args.ci} {m₁ = c.args.d} {n₂ = 255} {m₂ = 65536} (omega arith) c.requires.1

size : (c : goal.Start) → (c.args.ci * c.args.d + c.args.d / 2) * c.args.q ≤ 281492156579840
size c = rw c.requires.2 (first_small c.args.ci c.args.d (omega arith) c.requires.0 c.requires.1)

near : (c : goal.Start) → c.args.q ≤ 1099511627777
near c = rw c.requires.2 (reciprocal_small c.args.d)

abbrev apart : goal.Start → Num
apart c = sub (of_nat w64 c.args.cj 255 (omega arith) tt) (of_nat w64 c.args.ci 255 (omega arith) tt)

abbrev step : goal.Start → Num
step c = mul (keep w64 (apart c) tt) (of_nat w64 c.args.q 1099511627777 (near c) tt)

abbrev first : goal.Start → Num
first c = of_nat w64 ((c.args.ci * c.args.d + c.args.d / 2) * c.args.q) 281492156579840 (size c) tt

pub overflow_mul-result : goal.overflow_mul-result
overflow_mul-result c =
    omega (arith, product c)

pub overflow_add-result : goal.overflow_add-result
overflow_add-result c =
    omega (arith, product c)

pub overflow_mul-result-2 : goal.overflow_mul-result-2
overflow_mul-result-2 c =
    omega (arith, size c)

pub overflow_cast-result-2 : goal.overflow_cast-result-2
overflow_cast-result-2 c =
    record { sfits = omega (arith, size c) }

pub overflow_sub-result : goal.overflow_sub-result
overflow_sub-result c =
    need (apart c) tt

pub overflow_cast-result-5 : goal.overflow_cast-result-5
overflow_cast-result-5 c =
    record { sfits = omega (arith, near c) }

pub overflow_mul-result-3 : goal.overflow_mul-result-3
overflow_mul-result-3 c =
    need (step c) tt

pub returns : goal.returns
unfolding line_of
returns c =
    let a = c.args in
    let f = (first c).same ∙ ap (λ (q : ℕ). pos ((a.ci * a.d + a.d / 2) * q)) c.requires.2 in
    let s = (keep w64 (step c) tt).same ∙ ap (λ (q : ℕ). (pos a.cj -ℤ pos a.ci) *ℤ pos q) c.requires.2 in
    λ i. record { first = f i; step = s i }
