use mathlib.Core.Path.{◌≡◌}
use lib.ListN.{length}
use Rattle.lists.specs.Lists.{tab}
use Rattle.engine.specs.Picture.{pixel_at, mask_at}
use Rattle.regions.specs.Pixels.{overlays}
use Rattle.regions.specs.Proposals.{proposed_at}
use Rattle.regions.proofs.painting.paint_regions.Given as goal

abbrev pub invariant-loop-k : goal.invariant-loop-k
invariant-loop-k l =
    (length l.surface ≡ length l.initial.surface) × (l.scratch ≡ l.initial.scratch)
    × (l.surface ≡ overlays l.width l.height (tab l.k (proposed_at l.rectangles)) (pixel_at l.scene (mask_at l.width l.mask)) l.initial.surface)
