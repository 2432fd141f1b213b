-- `radial_row::next_place` meets its contract.
use Rattle.std.proofs.Common.{◌+ℤ◌, ◌∙◌, ap₂, w64}
use Rattle.fixed.proofs.Signed.{back, clean}
use Rattle.paint.proofs.radial_row.next_place.Goals as goal

pub returns : goal.returns
returns c =
    let p = c.args.p in
    let a = c.sum in
    let q = c.sum-2 in
    let dq = c.sum-3 in
    let ea = clean w64 2305843009213693952 p.a tt c.requires.a in
    let eq = clean w64 2305843009213693952 p.q tt c.requires.q in
    let edq = clean w64 2305843009213693952 p.dq tt c.requires.dq in
    let eda = clean w64 2305843009213693952 p.da tt c.requires.da in
    let eddq = clean w64 2305843009213693952 p.ddq tt c.requires.ddq in
    λ i. record {
      a = (back w64 a.result a.type_inv ∙ a.ensures ∙ ap₂ ◌+ℤ◌ ea eda) i;
      q = (back w64 q.result q.type_inv ∙ q.ensures ∙ ap₂ ◌+ℤ◌ eq edq) i;
      dq = (back w64 dq.result dq.type_inv ∙ dq.ensures ∙ ap₂ ◌+ℤ◌ edq eddq) i;
      da = eda i;
      ddq = eddq i;
    }
