-- `radial_row::padded_position` meets its contract: a product for t on the ramp, and no t behind it.
use Rattle.std.proofs.Common.{◌≡◌, ℕ, ◌+◌, ◌*◌, ◌/◌, ◌<◌, ◌≤◌, pos, sym, ap, ◌∙◌, subst, inl, inr, le_of_lt, mul-le-mul_right, arith, lit≤}
use Rattle.paint.specs.Circles.{ByProduct}
use Rattle.paint.specs.Segments.{position_of}
use Rattle.paint.proofs.Quotients.{by_scale, by_part, scaled_small}
use Rattle.paint.proofs.Placing.{below_unit, from_unit, on_ramp, behind}
use Rattle.paint.proofs.radial_row.padded_position.Goals as goal

small : (c : goal.Then-u-d) → let a = c.args in a.u * a.scale ≤ 9223372036854775808 + 189812480
small c =
    rw c.requires.2 (omega (arith, c.if-u-d.true, c.requires.1.0, scaled_small c.args.u c.args.d 9223372036854775808 c.if-u-d.true))

by_product : (u d : ℕ) → 0 < d → u < d → ByProduct d → u * (9223372036854775808 / d + 1) / 140737488355328 ≡ 65536 * u / d
by_product u d some h (k, inl n) = by_scale 140737488355328 d 65536 u some (omega (arith, n, mul-le-mul_right d (le_of_lt h)))
by_product u d some h (k, inr (m, n)) =
    let e = d / 256 in
    let d-is : d ≡ 256 * e = omega (arith, m) in
    let some-part : 0 < e = omega (arith, some, m) in
    let near : u * e < 140737488355328 = omega (arith, n, mul-le-mul_right e (le_of_lt h)) in
    subst (λ (d : ℕ). u * (9223372036854775808 / d + 1) / 140737488355328 ≡ 65536 * u / d) (sym d-is)
    (by_part 256 140737488355328 e 256 u (lit≤ tt) some-part near)

t-is : (c : goal.Then-u-d) → let a = c.args in a.u * a.scale / 140737488355328 ≡ 65536 * a.u / a.d
t-is c =
    rw c.requires.2 (by_product c.args.u c.args.d c.requires.0 c.if-u-d.true c.requires.1)

t-small : (c : goal.Then-u-d) → let a = c.args in a.u * a.scale / 140737488355328 < 65536
t-small c = let a = c.args in rw (t-is c) (below_unit a.u a.d c.if-u-d.true)

pub overflow_mul-result : goal.overflow_mul-result
overflow_mul-result c =
    record { fits = omega (arith, small c) }

pub overflow_cast-result : goal.overflow_cast-result
overflow_cast-result c =
    record { fits = omega (arith, t-small c) }

pub overflow_add-result : goal.overflow_add-result
overflow_add-result c =
    record { fits = omega (arith, t-small c) }

pub returns-then-u-d : goal.returns-then-u-d
returns-then-u-d c =
    on_ramp _ (t-small c) ∙ ap (λ (t : ℕ). position_of (pos t)) (t-is c)

pub returns-else-u-d : goal.returns-else-u-d
returns-else-u-d c =
    behind _ (from_unit c.args.u c.args.d c.requires.0 c.if-u-d.false)
