-- `radial::t_of` meets its contract: A + q is not negative, so that the division is one of natural numbers.
use Rattle.std.proofs.Common.{◌≡◌, ◌*◌, ◌/◌, ◌≤◌, ℤ, pos, ◌+ℤ◌, ◌*ℤ◌, nat_abs, ap, ◌∙◌, mul-le-mul, div-le_self, arith, to_z-of_z}
use Rattle.fixed.specs.Floor.{floor_div}
use Rattle.fixed.proofs.Sign.{is_positive, above_zero}
use Rattle.paint.proofs.Focal.{natural_cast}
use Rattle.paint.proofs.radial.t_of.Goals as goal

u-is : (c : goal.After-numerator-u) → pos c.numerator-u.result ≡ c.args.a +ℤ pos c.args.q
u-is c = c.numerator-u.ensures.0 ∙ rw (to_z-of_z c.ranges.a)

product_small : (c : goal.After-numerator-u) → c.numerator-u.result * c.args.reciprocal ≤ 2147483648 * 8589934591
product_small c =
    let h : c.args.reciprocal ≤ 8589934591 = omega (arith, c.requires.4) in
    mul-le-mul c.numerator-u.ensures.1 h

pub numerator-u-requires : goal.numerator-u-requires
numerator-u-requires c =
    rw (to_z-of_z c.ranges.a) (c.requires.0, c.requires.1)

pub overflow_mul-u : goal.overflow_mul-u
overflow_mul-u c =
    record { fits = omega (arith, c.numerator-u.ensures.1) }

pub overflow_cast-d : goal.overflow_cast-d
overflow_cast-d c =
    rw (to_z-of_z c.ranges.d) (natural_cast _ (is_positive c.requires.2), record { fits = omega (arith, c.requires.3) })

pub overflow_mul-u-2 : goal.overflow_mul-u-2
overflow_mul-u-2 c =
    record { fits = omega (arith, product_small c) }

pub quotient_near-requires : goal.quotient_near-requires
quotient_near-requires c =
    rw (to_z-of_z c.ranges.d) (above_zero c.requires.2, c.requires.3, omega (arith, product_small c))

pub returns : goal.returns
returns c =
    let u = c.numerator-u in
    let d = nat_abs c.args.d in
    let e : c.quotient_near.result ≡ 65536 * u.result / d = c.quotient_near.ensures ∙ rw (to_z-of_z c.ranges.d) in (
      ap pos e ∙ ap (λ (z : ℤ). floor_div (pos 65536 *ℤ z) d) (u-is c.before),
      rw e (omega (arith, div-le_self (65536 * u.result) d, u.ensures.1)),
    )
