-- `draws::paint_draws` meets its contract: the draws before i are painted.
use mathlib.Core.Path.{◌≡◌}
use Prim.Native.Nat.{◌≤◌}
use lib.ListN.{length}
use Rattle.raster.specs.Rows.{stepped}
use Rattle.engine.specs.Picture.{first_draws, mask_at}
use Rattle.engine.specs.Unclamped.{unclamped_all}
use Rattle.engine.proofs.draws.paint_draws.Given as goal

-- `draws::paint_draws` meets its contract: the draws before i are painted.
abbrev pub invariant-loop-i : goal.invariant-loop-i
invariant-loop-i l =
    (l.i ≤ l.count) × (length l.surface ≡ length l.initial.surface) × (l.scratch ≡ l.initial.scratch) × (length l.d ≡ length l.initial.d)
    × (l.surface ≡ stepped l.target (unclamped_all l.edition (first_draws l.scene l.i) (mask_at l.target.width l.mask)) l.initial.surface)
