-- `row::blocks` meets its contract: the pixels before i are stored.
use Rattle.std.proofs.Common.{◌+◌, ◌-◌, ◌≤◌}
use Rattle.raster.specs.Rows.{Stored}
use Rattle.paint.specs.Circles.{gradient_at}
use Rattle.paint.proofs.row.blocks.Given as goal

-- `row::blocks` meets its contract: the pixels before i are stored.
abbrev pub invariant-loop-i : goal.invariant-loop-i
invariant-loop-i l = (l.i ≤ l.n) × Stored (λ k. gradient_at l.g l.ramp (l.x + k) l.y) l.initial.row l.i l.row

abbrev pub decreases-loop-i : goal.decreases-loop-i
decreases-loop-i l = l.n - l.i
