-- `rows::FillArea::draw_rows` meets its contract: the rows below y are drawn.
use mathlib.Core.Path.{◌≡◌}
use lib.ListN.{length}
use Rattle.raster.specs.Rows.{Rows}
use Rattle.path.specs.Stored.{edges_of}
use Rattle.engine.specs.Picture.{mask_at}
use Rattle.engine.specs.Rows.{step_with}
use Rattle.engine.proofs.rows.FillArea.draw_rows.Given as goal

abbrev pub invariant-loop-y : goal.invariant-loop-y
invariant-loop-y l =
    Rows l.self.target (λ u v. step_with l.self.brush.style (edges_of l.initial.scratch l.self.brush.style.edges) l.self.brush.scissors.now
    l.self.brush.ramp.now (mask_at l.self.target.width l.self.brush.mask.now u v) u v) l.initial.surface l.y l.surface
    × (l.scratch ≡ l.initial.scratch)
    × (length l.buffer ≡ length l.initial.buffer) × (length l.runs ≡ length l.initial.runs)
