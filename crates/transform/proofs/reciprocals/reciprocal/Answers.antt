-- `transform::reciprocals::reciprocal` meets its contract.
use mathlib.Core.Path.{ap, ◌∙◌}
use mathlib.Core.List.{List}
use Prim.Native.Nat.{ℕ}
use native.Mathlib.Omega.{arith}
use lib.ListN.{length, get_or}
use Rattle.transform.proofs.Quotients.{table_length, table_entry}
use Rattle.transform.proofs.reciprocals.reciprocal.Goals as goal

pub bounds-table-at : goal.bounds-table-at
bounds-table-at c =
    omega (arith, ap length c.requires, table_length)

pub returns : goal.returns
returns c =
    ap (λ (s : List ℕ). get_or s c.args.a 0) c.requires ∙ table_entry c.args.a c.ranges.a.fits
