-- `coverage::marks::raise` meets its contract. Assumes nothing.
use mathlib.Core.Path.{refl}
use Rattle.coverage.specs.Marks.{raised}
use Rattle.coverage.proofs.marks.raise.Goals as goal

pub returns : goal.returns
unfolding raised
returns c =
    rw c.max.ensures refl
