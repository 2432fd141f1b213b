-- `blend::composite_masked` meets its contract: where nothing is covered the pixels stay. Assumes nothing.
use mathlib.Core.Path.{sym}
use lib.ListN.{get_or}
use Rattle.raster.specs.Surface.{pixel_in}
use Rattle.raster.proofs.Runs.{run_is}
use Rattle.blend.specs.PorterDuff.{composite_on}
use Rattle.blend.proofs.Masks.{uncovered_masked}
use Rattle.blend.proofs.masked.composite_masked.Goals as goal

pub returns-then-coverage-eq0 : goal.returns-then-coverage-eq0
returns-then-coverage-eq0 c =
    let a = c.args in
    rw c.if-coverage-eq0.true
    (run_is a.n (λ i. composite_on a.mode 0 (get_or a.mask.now i 0) (pixel_in a.src.now i) (pixel_in a.row.now i)) a.row.now c.requires.3
    (λ i l. sym (uncovered_masked a.mode (get_or a.mask.now i 0) (pixel_in a.src.now i) (pixel_in a.row.now i))))
