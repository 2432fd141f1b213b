-- `plain::draws::draw_first` meets its contract. Assumes nothing.
use mathlib.Core.Path.{◌≡◌}
use Prim.Native.Nat.{◌-◌, ◌≤◌}
use lib.ListN.{length}
use Rattle.engine.specs.Picture.{draw_all, first_draws, mask_at}
use Rattle.plain.specs.Asked.{pixelwise}
use Rattle.plain.proofs.draws.draw_first.Given as goal

-- `plain::draws::draw_first` meets its contract. Assumes nothing.
abbrev pub invariant-loop-i : goal.invariant-loop-i
invariant-loop-i l =
    (l.i ≤ l.n) × (length l.surface ≡ length l.initial.surface) × (l.scratch ≡ l.initial.scratch) × (length l.d ≡ length l.initial.d)
    × (l.surface ≡ pixelwise l.width l.height (draw_all l.edition (first_draws l.scene l.i) (mask_at l.width l.mask)) l.initial.surface)
