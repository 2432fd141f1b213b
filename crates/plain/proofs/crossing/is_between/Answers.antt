-- `plain::crossing::is_between` meets its contract. Assumes nothing.
use mir.Syntax.{w32}
use mir.Facts.{to_z-of_z}
use Rattle.fixed.proofs.Signed.{le_back}
use Rattle.plain.proofs.crossing.is_between.Goals as goal

pub returns-then-lower-y : goal.returns-then-lower-y
returns-then-lower-y c =
    rw (to_z-of_z c.ranges.y, to_z-of_z c.ranges.upper, le_back w32 c.args.lower c.args.y c.ranges.lower c.ranges.y c.if-lower-y.true)

pub returns-else-lower-y : goal.returns-else-lower-y
returns-else-lower-y c =
    rw (le_back w32 c.args.lower c.args.y c.ranges.lower c.ranges.y c.if-lower-y.false)
