-- `transform::reciprocals::table` meets its contract: that every entry is the reciprocal of its place is one test of all 256, which antt computes.
use mathlib.Core.Path.{refl}
use Rattle.transform.specs.Reciprocals.{reciprocals}
use Rattle.transform.proofs.reciprocals.table.Goals as goal

pub returns : goal.returns
unfolding reciprocals
returns c =
    refl
