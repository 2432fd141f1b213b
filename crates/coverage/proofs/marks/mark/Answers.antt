-- `coverage::marks::mark` meets its contract. Assumes nothing.
use mathlib.Core.Path.{refl}
use native.Mathlib.Omega.{arith}
use Rattle.coverage.proofs.Groups.{one_grouped}
use Rattle.coverage.proofs.marks.mark.Goals as goal

pub touch-requires : goal.touch-requires
touch-requires c =
    (omega arith, omega (arith, c.requires.0, c.requires.1.wide), c.requires.1.long)

pub returns : goal.returns
returns c =
    let a = c.args in
    record { marks_after = refl; grouped = one_grouped a.marks.now a.groups.now a.p refl c.touch.ensures c.requires.0 c.requires.1 }
