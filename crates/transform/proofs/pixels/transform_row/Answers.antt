-- `transform::pixels::transform_row` meets its contract.
use mathlib.Core.Path.{sym, ◌∙◌}
use Rattle.raster.specs.Surface.{pixel_in}
use Rattle.raster.proofs.Runs.{run_same}
use Rattle.transform.specs.Transforms.{transform_channels, transformed}
use Rattle.transform.proofs.Opaque.{opaque_transformed}
use Rattle.transform.proofs.pixels.transform_row.Goals as goal

pub returns-then-is_opaque : goal.returns-then-is_opaque
returns-then-is_opaque c =
    let a = c.args in
    let keeps = (c.keeps_opaque.ensures c.if-keeps_opaque.true).0 in
    let opaque = c.is_opaque.ensures c.if-is_opaque.true in
    c.transform_channels.ensures
    ∙ sym (run_same a.n (λ i. transformed a.t (pixel_in a.row.now i)) (λ i. transform_channels a.t (pixel_in a.row.now i))
    (λ i l. opaque_transformed a.t (pixel_in a.row.now i) keeps (opaque i l)))
