-- `blend::composite_painted` meets its contract: each way stores what the step does. Assumes nothing.
use mathlib.Core.Path.{sym, ◌∙◌}
use Prim.Native.Nat.{ℕ, ◌+◌, ◌*◌, ◌<◌}
use native.Mathlib.Omega.{arith}
use lib.ListN.{get_or}
use Rattle.raster.specs.Surface.{pixel_in}
use Rattle.raster.proofs.Runs.{run_is, run_same}
use Rattle.blend.specs.Unmasked.{unmasked_on}
use Rattle.blend.specs.Spans.{stored_pixel}
use Rattle.blend.proofs.Shortcuts.{uncovered_stores, hiding_stores}
use Rattle.blend.proofs.span.composite_painted.Goals as goal

pub returns-then-coverage-eq0 : goal.returns-then-coverage-eq0
returns-then-coverage-eq0 c =
    let a = c.args in
    rw c.if-coverage-eq0.true
    (run_is a.n (λ i. unmasked_on a.mode 0 (pixel_in a.src.now i) (pixel_in a.row.now i)) a.row.now c.requires.2
    (λ i l. sym (uncovered_stores a.mode (pixel_in a.src.now i) (pixel_in a.row.now i))))

pub returns-then-hides_all : goal.returns-then-hides_all
returns-then-hides_all c =
    let known = c.shared_slice_known-1 in
    let a = c.args in
    let byte : (j : ℕ) → get_or a.src.now j 0 < 256 = λ j. omega (arith, known.given j) in
    c.store_painted.ensures
    ∙ run_same a.n (λ i. stored_pixel a.coverage (pixel_in a.src.now i) (pixel_in a.row.now i))
    (λ i. unmasked_on a.mode a.coverage (pixel_in a.src.now i) (pixel_in a.row.now i))
    (λ i l.
    sym (hiding_stores a.mode a.coverage (pixel_in a.src.now i) (pixel_in a.row.now i) (byte (i * 4)) (byte (i * 4 + 1)) (byte (i * 4 + 2))
    (byte (i * 4 + 3)) (c.hides_all.ensures c.if-hides_all.true i l)))
