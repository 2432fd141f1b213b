-- `guesses::root` does nothing undefined: what is capped is a number.
use Rattle.std.proofs.Common.{not, T, sym, subst, lit≤}
use lib.Ieee.{binary64, fits, is_nan}
use lib.Ieee.Fits.{and_i, fits_widens}
use Rattle.paint.proofs.Floating.{bits_number}
use Rattle.paint.proofs.guesses.root.Goals as goal

pub capped-w-requires : goal.capped-w-requires
capped-w-requires c =
    bits_number 1065353216 (lit≤ tt)

pub float_to_float-w : goal.float_to_float-w
float_to_float-w c =
    let w = c.capped-w in
    and_i (fits binary64 w.result) (not (is_nan w.result)) (fits_widens w.result (subst T (sym w.type_inv) tt)) w.ensures

pub whole-requires : goal.whole-requires
whole-requires c =
    c.requires

pub returns : goal.returns
returns c =
    tt
