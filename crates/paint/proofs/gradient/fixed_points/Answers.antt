-- `gradient::fixed_points` meets its contract.
use Rattle.std.proofs.Common.{◌∙◌, w64}
use Rattle.fixed.proofs.Signed.{clean}
use Rattle.paint.proofs.gradient.fixed_points.Goals as goal

pub coordinate-requires : goal.coordinate-requires
coordinate-requires c =
    c.requires.0

pub coordinate-requires-2 : goal.coordinate-requires-2
coordinate-requires-2 c =
    c.requires.1

pub coordinate-requires-3 : goal.coordinate-requires-3
coordinate-requires-3 c =
    c.requires.2

pub coordinate-requires-4 : goal.coordinate-requires-4
coordinate-requires-4 c =
    c.requires.3

pub returns : goal.returns
returns c =
    let x0 = c.coordinate in
    let y0 = c.coordinate-2 in
    let x1 = c.coordinate-3 in
    let y1 = c.coordinate-4 in
    let a = clean w64 1048576 x0.result tt x0.ensures.1 in
    let b = clean w64 1048576 y0.result tt y0.ensures.1 in
    let d = clean w64 1048576 x1.result tt x1.ensures.1 in
    let e = clean w64 1048576 y1.result tt y1.ensures.1 in (
      λ i. record { x0 = (a ∙ x0.ensures.0) i; y0 = (b ∙ y0.ensures.0) i; x1 = (d ∙ x1.ensures.0) i; y1 = (e ∙ y1.ensures.0) i },
      record { x0 = rw a x0.ensures.1; y0 = rw b y0.ensures.1; x1 = rw d x1.ensures.1; y1 = rw e y1.ensures.1 },
    )
