-- `radial_row::place_at` meets its contract.
use Rattle.std.proofs.Common.{◌≡◌, pos, ◌-ℤ◌, ◌<ℤ◌, ap, ◌∙◌, ap₂, w64, to_z, of_z}
use Rattle.fixed.proofs.Signed.{back, clean}
use Rattle.paint.specs.Radial.{inside, from_focus, radial_d}
use Rattle.paint.specs.Circles.{place_at}
use Rattle.paint.specs.declared.Circle.{Circle}
use Rattle.paint.proofs.Focal.{focal_inside}
use Rattle.paint.proofs.radial_row.place_at.Goals as goal
use Rattle.paint.proofs.radial_row.place_at.Tie as tie
use Rattle.paint.proofs.radial_row.place_at.Lts as lts
use Rattle.paint.proofs.radial_row.place_at.Reads as reads

abbrev circle : lts.After-struct_told7 tie.the-claims reads.Pre reads.Post tie.handed_clauses → Circle
circle c = c.args.c

radius : (c : lts.After-struct_told7 tie.the-claims reads.Pre reads.Post tie.handed_clauses) → to_z w64 (of_z w64 (circle c).r) ≡ (circle c).r
radius c = clean w64 16384 (circle c).r tt c.requires.0.r

dx : (c : goal.After-place_from) → to_z w64 (of_z w64 c.from_focus.result) ≡ from_focus c.args.x (circle c.before).fx
dx c =
    let o = c.from_focus in
    back w64 o.result o.type_inv ∙ o.ensures.0 ∙ ap (from_focus c.args.x) (clean w64 16384 c.args.c.fx tt c.requires.0.fx)

dy : (c : goal.After-place_from) → to_z w64 (of_z w64 c.from_focus-2.result) ≡ from_focus c.args.y (circle c.before).fy
dy c =
    let o = c.from_focus-2 in
    back w64 o.result o.type_inv ∙ o.ensures.0 ∙ ap (from_focus c.args.y) (clean w64 16384 c.args.c.fy tt c.requires.0.fy)

f : (c : lts.After-struct_told7 tie.the-claims reads.Pre reads.Post tie.handed_clauses) → to_z w64 (of_z w64 c.apart.result) ≡ (circle c).fx -ℤ (circle c).cx
f c =
    let o = c.apart in
    back w64 o.result o.type_inv ∙ o.ensures.0
    ∙ ap₂ ◌-ℤ◌ (clean w64 16384 c.args.c.fx tt c.requires.0.fx) (clean w64 16384 c.args.c.cx tt c.requires.0.cx)

g : (c : lts.After-struct_told7 tie.the-claims reads.Pre reads.Post tie.handed_clauses) → to_z w64 (of_z w64 c.apart-2.result) ≡ (circle c).fy -ℤ (circle c).cy
g c =
    let o = c.apart-2 in
    back w64 o.result o.type_inv ∙ o.ensures.0
    ∙ ap₂ ◌-ℤ◌ (clean w64 16384 c.args.c.fy tt c.requires.0.fy) (clean w64 16384 c.args.c.cy tt c.requires.0.cy)

inner : (c : lts.After-struct_told7 tie.the-claims reads.Pre reads.Post tie.handed_clauses)
    → pos 0 <ℤ inside (circle c).r ((circle c).fx -ℤ (circle c).cx) ((circle c).fy -ℤ (circle c).cy)
unfolding radial_d
inner c = focal_inside c.args.c c.requires.1 c.requires.2

pub place_from-requires : goal.place_from-requires
place_from-requires c =
    let ox = c.from_focus in
    let oy = c.from_focus-2 in
    let of = c.apart in
    let og = c.apart-2 in
    record {
      r_bound = (
        rw (radius c.before) c.requires.0.r,
        rw (back w64 ox.result ox.type_inv) ox.ensures.1,
        rw (back w64 oy.result oy.type_inv) oy.ensures.1,
        rw (back w64 of.result of.type_inv) of.ensures.1,
        rw (back w64 og.result og.type_inv) og.ensures.1,
      );
      pos_bound = rw (radius c.before, f c.before, g c.before) (inner c.before);
    }

pub returns : goal.returns
unfolding place_at
returns c =
    c.place_from.ensures ∙ rw (radius c.before, dx c, dy c, f c.before, g c.before)
