-- `spans::GradientRow::blend_parts` meets its contract: the pixels before run j are stored.
use mathlib.Core.Path.{◌≡◌}
use Prim.Native.Nat.{◌+◌, ◌-◌, ◌≤◌}
use lib.ListN.{length}
use Rattle.runs.specs.Runs.{start_of}
use Rattle.raster.specs.Rows.{Stored}
use Rattle.engine.specs.Rows.{gradient_tinted, levels}
use Rattle.engine.proofs.Parts.{stepped}
use Rattle.engine.proofs.spans.GradientRow.blend_parts.Given as goal

abbrev pub invariant-loop-j : goal.invariant-loop-j
invariant-loop-j l =
    (l.j ≤ length l.self.runs.now) × (length l.buffer ≡ length l.initial.buffer)
    × Stored (stepped l.self.mode (levels l.self.runs.now)
    (λ i. gradient_tinted l.self.paint l.self.ramp.now (l.self.strip.x + i) l.self.strip.y) l.initial.row)
    l.initial.row (start_of l.self.runs.now l.j) l.row

abbrev pub decreases-loop-j : goal.decreases-loop-j
decreases-loop-j l = length l.self.runs.now - l.j
