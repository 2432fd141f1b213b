-- `blend::composite_span` meets its contract: each way stores what the step does. Assumes nothing.
use mathlib.Core.Path.{sym, ◌∙◌}
use native.Mathlib.Omega.{arith}
use Rattle.raster.specs.Surface.{pixel_in}
use Rattle.raster.proofs.Runs.{run_is, run_same}
use Rattle.blend.specs.Unmasked.{unmasked_on}
use Rattle.blend.specs.Spans.{stored_pixel}
use Rattle.blend.proofs.Shortcuts.{uncovered_stores, hiding_stores}
use Rattle.blend.proofs.span.composite_span.Goals as goal

pub returns-then-coverage-eq0 : goal.returns-then-coverage-eq0
returns-then-coverage-eq0 c =
    let a = c.args in
    rw c.if-coverage-eq0.true
    (run_is a.n (λ i. unmasked_on a.mode 0 a.src (pixel_in a.row.now i)) a.row.now (omega arith)
    (λ i l. sym (uncovered_stores a.mode a.src (pixel_in a.row.now i))))

pub returns-then-hides : goal.returns-then-hides
returns-then-hides c =
    let a = c.args in
    c.store_span.ensures
    ∙ run_same a.n (λ i. stored_pixel a.coverage a.src (pixel_in a.row.now i))
    (λ i. unmasked_on a.mode a.coverage a.src (pixel_in a.row.now i))
    (λ i l.
    sym (hiding_stores a.mode a.coverage a.src (pixel_in a.row.now i) (omega arith) (omega arith) (omega arith) (omega arith)
    (sym c.hides.ensures ∙ c.if-hides.true)))
