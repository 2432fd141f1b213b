use native.Mathlib.Omega.{arith}
use Rattle.std.proofs.lemmas.Bool.Decides.{nat_tests}
use Rattle.limits.specs.Digits.{with_digit}
use Rattle.limits.proofs.arguments.more.Goals as goal

pub returns-in-48-to-57 : goal.returns-in-48-to-57
unfolding with_digit
returns-in-48-to-57 c = grind (arith, nat_tests)

pub returns-in_default : goal.returns-in_default
unfolding with_digit
returns-in_default c = grind (arith, nat_tests)

pub returns-in_default-2 : goal.returns-in_default-2
unfolding with_digit
returns-in_default-2 c = grind (arith, nat_tests)

pub returns-in_default-3 : goal.returns-in_default-3
unfolding with_digit
returns-in_default-3 c = grind (arith, nat_tests)
