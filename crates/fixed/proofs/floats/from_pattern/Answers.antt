-- `fixed::floats::from_pattern` meets its contract.
use mathlib.Core.Path.{◌≡◌, sym, ◌∙◌, subst}
use mathlib.Core.Bool.{Bool, false, not}
use borrow.Author.Tests.{le-ltb, lt-ltb}
use lib.Dec.{T}
use lib.Ieee.{binary32, nan_bits}
use lib.Ieee.Bits.{nan_bits_above}
use Rattle.fixed.proofs.floats.from_pattern.Goals as goal

no_nan : (c : goal.Then-n-le-INFINITY) → nan_bits binary32 c.args.n ≡ false
no_nan c = nan_bits_above binary32 c.args.n ∙ le-ltb _ _ c.if-n-le-INFINITY.true

pub float_from_bits-result : goal.float_from_bits-result
float_from_bits-result c =
    subst (λ (b : Bool). T (not b)) (sym (no_nan c)) tt

pub returns-then-n-le-INFINITY : goal.returns-then-n-le-INFINITY
returns-then-n-le-INFINITY c =
    rw (no_nan c)

pub returns-else-n-le-INFINITY : goal.returns-else-n-le-INFINITY
returns-else-n-le-INFINITY c =
    rw (nan_bits_above binary32 c.args.n, lt-ltb _ _ c.if-n-le-INFINITY.false)
