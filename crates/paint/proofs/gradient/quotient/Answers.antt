-- `gradient::quotient` meets its contract.
use Rattle.std.proofs.Common.{ℤ, pos, nat_abs, ◌∙◌, ap₂, to_z-of_z, w64}
use Rattle.fixed.specs.Floor.{floor_div, floor_mod}
use Rattle.fixed.proofs.Signed.{back}
use Rattle.paint.proofs.gradient.quotient.Goals as goal

pub floor_div-requires : goal.floor_div-requires
floor_div-requires c =
    rw (to_z-of_z c.ranges.d) c.requires

pub floor_mod-requires : goal.floor_mod-requires
floor_mod-requires c =
    rw (to_z-of_z c.ranges.d) c.requires

pub returns : goal.returns
returns c =
    let n = to_z-of_z c.ranges.n in
    let d = to_z-of_z c.ranges.d in
    let f = c.floor_div in
    let m = c.floor_mod in
    let whole = back w64 f.result f.type_inv ∙ f.ensures ∙ ap₂ (λ (a b : ℤ). floor_div a (nat_abs b)) n d in
    let rest = back w64 m.result m.type_inv ∙ m.ensures ∙ ap₂ (λ (a b : ℤ). pos (floor_mod a (nat_abs b))) n d in
    λ i. record { whole = whole i; rest = rest i }
