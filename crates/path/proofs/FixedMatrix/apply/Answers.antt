-- `path::FixedMatrix::apply` meets its contract.
use Rattle.std.proofs.Common.{T, leb, nat_abs, sym, subst}
use Rattle.fixed.proofs.Tests.{both_left, both_right}
use Rattle.path.specs.Matrices.{transform, on_surface_grid}
use Rattle.path.proofs.Axes.{landed_there}
use Rattle.path.proofs.FixedMatrix.apply.Goals as goal

pub returns : goal.returns
returns c =
    let q = transform c.args.self c.args.p in
    let on : T (on_surface_grid q) = subst T (sym c.requires.1) tt in
    let x = both_left (leb (nat_abs q.x) 8388608) (leb (nat_abs q.y) 8388608) on in
    let y = both_right (leb (nat_abs q.x) 8388608) (leb (nat_abs q.y) 8388608) on in
    let e = landed_there _ c.across.result x c.across.type_inv c.across.ensures in
    let f = landed_there _ c.up.result y c.up.type_inv c.up.ensures in
    λ i. record { x = e i; y = f i }
