-- `blend::store_painted` meets its contract: under a full coverage the bytes that are stored are the paint's. Assumes nothing.
use mathlib.Core.Path.{sym, ◌∙◌}
use Rattle.raster.specs.Surface.{pixel_in}
use Rattle.raster.proofs.Runs.{run_is}
use Rattle.blend.specs.Spans.{stored_pixel}
use Rattle.blend.proofs.Shortcuts.{covered_stores}
use Rattle.blend.proofs.span.store_painted.Goals as goal

pub returns-then-coverage-eq16 : goal.returns-then-coverage-eq16
returns-then-coverage-eq16 c =
    let a = c.args in
    rw c.if-coverage-eq16.true
    (c.copy_row.ensures
    ∙ run_is a.n (λ i. stored_pixel 16 (pixel_in a.src.now i) (pixel_in a.row.now i)) a.src.now c.requires.1
    (λ i l. sym (covered_stores (pixel_in a.src.now i) (pixel_in a.row.now i))))
