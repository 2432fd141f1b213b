-- `positions::fraction` meets its contract: what is left of the first division is below d, so the second has 22 bits more too.
use Rattle.std.proofs.Common.{◌≡◌, ◌+◌, ◌*◌, ◌/◌, ◌%◌, ◌<◌, mod-lt, arith}
use Rattle.paint.specs.Buffers.{line_parts}
use Rattle.paint.proofs.Along.{fraction_below, twice_divided}
use Rattle.paint.proofs.positions.fraction.Goals as goal

same : (c : goal.Start)
    → let r = c.args.r in
    let d = c.args.d in r * 4194304 / d * 4194304 + r * 4194304 % d * 4194304 / d ≡ r * line_parts / d
same c = twice_divided c.args.r c.args.d (omega (arith, c.requires.0))

small : (c : goal.Start) → c.args.r * line_parts / c.args.d < line_parts
small c = fraction_below c.args.r c.args.d c.requires.0

pub overflow_mul-result : goal.overflow_mul-result
overflow_mul-result c =
    record { fits = omega (arith, same c, small c) }

pub overflow_mul-result-2 : goal.overflow_mul-result-2
overflow_mul-result-2 c =
    record { fits = omega (arith, c.requires, mod-lt (c.args.r * 4194304) {m = c.args.d} (omega (arith, c.requires.0))) }

pub overflow_add-result : goal.overflow_add-result
overflow_add-result c =
    record { fits = omega (arith, same c, small c) }

pub returns : goal.returns
returns c =
    (same c, omega (arith, same c, small c))
