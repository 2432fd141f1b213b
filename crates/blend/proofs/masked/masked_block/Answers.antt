-- `blend::masked_block` meets its contract: B is made over a copy of the row, and stored by the mask. Assumes nothing.
use mathlib.Core.Path.{ap, ◌∙◌}
use mathlib.Core.List.{List}
use Prim.Native.Nat.{ℕ}
use Rattle.raster.specs.Surface.{run, pixel_in}
use Rattle.blend.specs.Unmasked.{unmasked_on}
use Rattle.blend.proofs.Masks.{masked_pixels}
use Rattle.blend.proofs.masked.masked_block.Goals as goal

pub returns : goal.returns
returns c =
    let a = c.args in
    let made = c.composite_painted in
    let spread = c.spread_row in
    masked_pixels a.n a.mode a.coverage a.mask.now a.src.now a.row.now made.new.row spread.new.wide _
    (made.ensures
    ∙ ap (λ (d : List ℕ). run a.n (λ i. unmasked_on a.mode 16 (pixel_in a.src.now i) (pixel_in d i))) c.copy_row.ensures)
    spread.ensures c.masked_row.ensures
