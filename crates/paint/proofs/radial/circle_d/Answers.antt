-- `radial::circle_d` meets its contract.
use Rattle.std.proofs.Common.{◌≡◌, ◌-ℤ◌, ◌∙◌, ap₂, w64, to_z, of_z}
use Rattle.fixed.proofs.Signed.{back, clean}
use Rattle.paint.specs.Radial.{radial_d}
use Rattle.paint.proofs.radial.circle_d.Goals as goal

radius : (c : goal.After-inside) → to_z w64 (of_z w64 c.args.c.r) ≡ c.args.c.r
radius c = clean w64 16384 c.args.c.r tt c.requires.r

f : (c : goal.After-inside) → to_z w64 (of_z w64 c.apart.result) ≡ c.args.c.fx -ℤ c.args.c.cx
f c =
    let o = c.apart in
    back w64 o.result o.type_inv ∙ o.ensures.0
    ∙ ap₂ ◌-ℤ◌ (clean w64 16384 c.args.c.fx tt c.requires.fx) (clean w64 16384 c.args.c.cx tt c.requires.cx)

g : (c : goal.After-inside) → to_z w64 (of_z w64 c.apart-2.result) ≡ c.args.c.fy -ℤ c.args.c.cy
g c =
    let o = c.apart-2 in
    back w64 o.result o.type_inv ∙ o.ensures.0
    ∙ ap₂ ◌-ℤ◌ (clean w64 16384 c.args.c.fy tt c.requires.fy) (clean w64 16384 c.args.c.cy tt c.requires.cy)

pub returns : goal.returns
unfolding radial_d
returns c =
    back w64 c.inside.result c.inside.type_inv ∙ c.inside.ensures ∙ rw (radius c, f c, g c)
