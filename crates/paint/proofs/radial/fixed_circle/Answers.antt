-- `radial::fixed_circle` meets its contract.
use Rattle.std.proofs.Common.{◌∙◌, w64}
use Rattle.fixed.proofs.Signed.{clean}
use Rattle.paint.proofs.radial.fixed_circle.Goals as goal

pub sixteenths-requires : goal.sixteenths-requires
sixteenths-requires c =
    c.requires.cx_value.0

pub sixteenths-requires-2 : goal.sixteenths-requires-2
sixteenths-requires-2 c =
    c.requires.cx_value.1

pub sixteenths-requires-3 : goal.sixteenths-requires-3
sixteenths-requires-3 c =
    c.requires.fx_value.0

pub sixteenths-requires-4 : goal.sixteenths-requires-4
sixteenths-requires-4 c =
    c.requires.fx_value.1

pub sixteenths-requires-5 : goal.sixteenths-requires-5
sixteenths-requires-5 c =
    c.requires.fx_value.2

pub returns : goal.returns
returns c =
    let cx = c.sixteenths in
    let cy = c.sixteenths-2 in
    let fx = c.sixteenths-3 in
    let fy = c.sixteenths-4 in
    let r = c.sixteenths-5 in
    let ecx = clean w64 16384 cx.result tt cx.ensures.1 in
    let ecy = clean w64 16384 cy.result tt cy.ensures.1 in
    let efx = clean w64 16384 fx.result tt fx.ensures.1 in
    let efy = clean w64 16384 fy.result tt fy.ensures.1 in
    let er = clean w64 16384 r.result tt r.ensures.1 in (
      λ i. record {
        cx = (ecx ∙ cx.ensures.0) i;
        cy = (ecy ∙ cy.ensures.0) i;
        fx = (efx ∙ fx.ensures.0) i;
        fy = (efy ∙ fy.ensures.0) i;
        r = (er ∙ r.ensures.0) i;
      },
      record {
        cx = rw ecx cx.ensures.1;
        cy = rw ecy cy.ensures.1;
        fx = rw efx fx.ensures.1;
        fy = rw efy fy.ensures.1;
        r = rw er r.ensures.1;
      },
    )
