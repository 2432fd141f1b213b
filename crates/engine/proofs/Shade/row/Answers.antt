-- `Shade::row` meets its contract: pixels of one colour, or a gradient's.
use mathlib.Core.Path.{subst}
use Rattle.engine.specs.declared.Shade.{Shade}
use Rattle.engine.specs.Rows.{Shaded}
use Rattle.engine.proofs.RowLaws.{solid_pixels, gradient_pixels}
use Rattle.engine.proofs.Shade.row.Goals as goal

pub row-requires : goal.row-requires
row-requires c =
    let held = subst (λ (z : Shade). Shaded z c.args.ramp.now) c.in-Gradient.is c.requires.shaded in
    record { held_gradient = held; paints_len = c.requires.paints_len }

pub returns-in-Solid : goal.returns-in-Solid
returns-in-Solid c =
    let a = c.args in
    let s = a.strip in
    let call = c.fill_row in
    solid_pixels s.length s.x s.y a.ramp.now call.new.s a.self c.in-Solid.p c.in-Solid.is call.ensures

pub returns-in-Gradient : goal.returns-in-Gradient
returns-in-Gradient c =
    let a = c.args in
    let s = a.strip in
    let call = c.row in
    gradient_pixels s.length s.x s.y a.ramp.now call.new.paints a.self c.in-Gradient.g c.in-Gradient.is call.ensures
