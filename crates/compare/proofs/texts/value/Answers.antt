use native.Mathlib.Omega.{arith}
use Rattle.std.proofs.lemmas.Bool.Decides.{nat_tests}
use Rattle.compare.specs.Texts.{digit_value}
use Rattle.compare.proofs.texts.value.Goals as goal

pub returns-in-48-to-57 : goal.returns-in-48-to-57
unfolding digit_value
returns-in-48-to-57 c = (grind (arith, nat_tests), omega (arith, c.in-48-to-57))

pub returns-in-97-to-102 : goal.returns-in-97-to-102
unfolding digit_value
returns-in-97-to-102 c = (grind (arith, nat_tests), omega (arith, c.in-97-to-102))

pub returns-in_default : goal.returns-in_default
unfolding digit_value
returns-in_default c = (grind (arith, nat_tests), omega arith)

pub returns-in_default-2 : goal.returns-in_default-2
unfolding digit_value
returns-in_default-2 c = (grind (arith, nat_tests), omega arith)

pub returns-in_default-3 : goal.returns-in_default-3
unfolding digit_value
returns-in_default-3 c = (grind (arith, nat_tests), omega arith)
