-- `outline::frame::point_at` meets its contract.
use mathlib.Core.Path.{◌∙◌}
use mir.Syntax.{w32}
use Rattle.fixed.proofs.Signed.{clean}
use Rattle.outline.specs.Frames.{point_of}
use Rattle.outline.proofs.frame.point_at.Goals as goal

pub returns : goal.returns
unfolding point_of
returns c =
    let across = c.coordinate_at in
    let up = c.coordinate_at-2 in
    let x = clean w32 32768 across.result tt across.ensures.1 in
    let y = clean w32 32768 up.result tt up.ensures.1 in
    let ex = x ∙ across.ensures.0 in
    let ey = y ∙ up.ensures.0 in
    (λ i. record { x = ex i; y = ey i }, record { x = rw x across.ensures.1; y = rw y up.ensures.1 })
