-- `radial::quotient_near` meets its contract: a rest below d tells that the guess is the quotient.
use Rattle.std.proofs.Common.{◌≡◌, ℕ, ◌+◌, ◌*◌, ◌/◌, ◌%◌, ◌<◌, ◌≤◌, sym, mul-le-mul, arith}
use native.Mathlib.Nat.{div-eq_of_lt-le}
use Rattle.paint.proofs.radial.quotient_near.Goals as goal

only-quotient : (n d g r : ℕ) → g * d ≤ 8589934592 * 268435456 → d ≤ 268435456 → r < d → (r + g * d) % 18446744073709551616 ≡ n → g ≡ n / d
only-quotient n d g r h k l e = sym (div-eq_of_lt-le d (omega arith) (omega arith))

pub overflow_mul-guess : goal.overflow_mul-guess
overflow_mul-guess c =
    record { fits = omega (arith, mul-le-mul c.requires.2 c.requires.1) }

pub wrapping_sub_u64-rest-requires : goal.wrapping_sub_u64-rest-requires
wrapping_sub_u64-rest-requires c =
    tt

pub returns-then-rest-d : goal.returns-then-rest-d
returns-then-rest-d c =
    only-quotient c.args.n c.args.d c.args.guess c.wrapping_sub_u64-rest.result (mul-le-mul c.requires.2 c.requires.1) c.requires.1
    c.if-rest-d.true
    c.wrapping_sub_u64-rest.ensures.value
