-- `guesses::whole` does nothing undefined: a sum with a finite number is a number.
use Rattle.std.proofs.Common.{◌≡◌, false, not, T, negsuc, sym, refl, subst, arith}
use lib.Ieee.{Float, fin, binary64, is_nan, add, of_bits}
use Rattle.paint.proofs.Floating.{added_number}
use Rattle.paint.proofs.guesses.whole.Goals as goal

-- the constant is 2^53 - 1 halves
unit-is : of_bits binary64 4841369599423283199 ≡ fin false 9007199254740991 (negsuc 0)
unfolding of_bits
unit-is = refl

pub lesser-u-requires : goal.lesser-u-requires
lesser-u-requires c =
    c.requires

pub float_to_bits-result : goal.float_to_bits-result
float_to_bits-result c =
    subst (λ (y : Float). T (not (is_nan (add binary64 c.lesser-u.result y)))) (sym unit-is)
    (added_number binary64 c.lesser-u.result false 9007199254740991 (negsuc 0) c.lesser-u.ensures)

pub overflow_cast-result : goal.overflow_cast-result
overflow_cast-result c =
    record { fits = omega arith }

pub returns : goal.returns
returns c =
    tt
