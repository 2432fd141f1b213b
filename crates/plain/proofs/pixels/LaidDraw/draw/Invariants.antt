-- `plain::pixels::LaidDraw::draw` meets its contract. Assumes nothing.
use Prim.Native.Nat.{◌-◌, ◌/◌, ◌%◌, ◌≤◌}
use Rattle.raster.specs.Surface.{pixel_in}
use Rattle.raster.specs.Rows.{Stored}
use Rattle.path.specs.Stored.{edges_of}
use Rattle.engine.specs.Picture.{mask_at}
use Rattle.engine.specs.Rows.{mask_with}
use Rattle.plain.specs.Asked.{step_at}
use Rattle.plain.proofs.pixels.LaidDraw.draw.Given as goal

-- `plain::pixels::LaidDraw::draw` meets its contract. Assumes nothing.
abbrev pub invariant-loop-i : goal.invariant-loop-i
invariant-loop-i l =
    Stored (λ j. step_at l.self.brush.style (edges_of l.self.scratch.now l.self.brush.style.edges) l.self.brush.scissors.now l.self.brush.ramp.now
    (mask_with l.self.brush.style (mask_at l.width l.self.brush.mask.now (j % l.width) (j / l.width)))
    (j % l.width) (j / l.width)
    (pixel_in l.initial.surface j)) l.initial.surface l.i l.surface
