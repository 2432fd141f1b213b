-- `radial_row::most_root` meets its contract: a whole number as a float is a number.
use Rattle.std.proofs.Common.{not, T, sym, subst}
use lib.Ieee.{Float, binary64, is_nan}
use Rattle.fixed.proofs.Means.{need, mul, lit}
use Rattle.paint.proofs.Floating.{whole_number}
use Rattle.paint.proofs.Sizes.{sized}
use Rattle.paint.proofs.radial_row.most_root.Goals as goal

pub overflow_mul-r : goal.overflow_mul-r
overflow_mul-r c =
    need (mul (lit 65536) (sized 16384 c.args.r tt c.requires)) tt

pub nearest_i64_to_f64-requires : goal.nearest_i64_to_f64-requires
nearest_i64_to_f64-requires c =
    tt

pub returns : goal.returns
returns c =
    subst (λ (v : Float). T (not (is_nan v))) (sym c.nearest_i64_to_f64.ensures) (whole_number binary64 _)
