-- `chord::is_inside` meets its contract.
use Rattle.std.proofs.Common.{◌-ℤ◌, ◌*ℤ◌, ap, ◌∙◌, ap₂, w64}
use lib.Signed.{lt_z}
use Rattle.fixed.proofs.Means.{Num, need, keep, mul}
use Rattle.fixed.proofs.Signed.{back, clean}
use Rattle.paint.specs.Radial.{from_focus}
use Rattle.paint.proofs.Sizes.{sized}
use Rattle.paint.proofs.chord.is_inside.Goals as goal

abbrev across : goal.After-less_squared-rest → Num
across c = sized 32776 c.from_focus-ex.result tt c.from_focus-ex.ensures.1

pub overflow_mul-result : goal.overflow_mul-result
overflow_mul-result c =
    need (mul (across c) (across c)) tt

pub returns : goal.returns
returns c =
    let up = c.from_focus in
    let circle = c.args.c in
    let ex = c.from_focus-ex.ensures.0 ∙ ap (from_focus c.args.x) (clean w64 16384 circle.cx tt c.requires.0.cx) in
    let ey = back w64 up.result up.type_inv ∙ up.ensures.0 ∙ ap (from_focus c.args.y) (clean w64 16384 circle.cy tt c.requires.0.cy) in
    let r = clean w64 16384 circle.r tt c.requires.0.r in
    let rest = c.less_squared-rest in
    ap₂ lt_z ((keep w64 (mul (across c) (across c)) tt).same ∙ ap₂ ◌*ℤ◌ ex ex)
    (back w64 rest.result rest.type_inv ∙ rest.ensures.0 ∙ ap₂ ◌-ℤ◌ (ap₂ ◌*ℤ◌ r r) (ap₂ ◌*ℤ◌ ey ey))
