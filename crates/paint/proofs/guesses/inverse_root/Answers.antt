-- `guesses::inverse_root` does nothing undefined: its pattern is no NaN's.
use Rattle.std.proofs.Common.{Bool, not, T, sym, subst, arith, lit≤}
use Rattle.paint.proofs.Floating.{moderate_bits, bits_number}
use Rattle.paint.proofs.guesses.inverse_root.Goals as goal

pub capped-v-requires : goal.capped-v-requires
capped-v-requires c =
    bits_number 1568669696 (lit≤ tt)

pub float_to_bits-a : goal.float_to_bits-a
float_to_bits-a c =
    c.capped-v.ensures

pub overflow_sub-a : goal.overflow_sub-a
overflow_sub-a c =
    omega arith

pub float_from_bits-a : goal.float_from_bits-a
float_from_bits-a c =
    subst (λ (b : Bool). T (not b)) (sym (moderate_bits _ (omega arith))) tt

pub returns : goal.returns
returns c =
    tt
