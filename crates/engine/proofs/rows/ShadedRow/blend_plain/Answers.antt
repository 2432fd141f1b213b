-- `rows::ShadedRow::blend_plain` meets its contract: a plain colour is blended as it is, a gradient where the row is covered.
use mathlib.Core.Path.{subst}
use native.Mathlib.Omega.{arith}
use Rattle.engine.specs.declared.Shade.{Shade}
use Rattle.engine.specs.Rows.{levels, Shaded}
use Rattle.engine.proofs.RowLaws.{solid_row, gradient_blended}
use Rattle.engine.proofs.rows.ShadedRow.blend_plain.Goals as goal

pub composite_runs-requires : goal.composite_runs-requires
composite_runs-requires c =
    let s = c.args.self.now in
    record { runs = (s.covered.0, omega arith, c.requires.0); coverage = s.covered.1 }

pub invariant_of-part : goal.invariant_of-part
invariant_of-part c =
    let s = c.args.self.now in
    record { held = subst (λ (z : Shade). Shaded z s.brush.ramp.now) c.in-Gradient.is s.brush.shaded; covered = s.covered }

pub returns-in-Solid : goal.returns-in-Solid
returns-in-Solid c =
    let s = c.args.self.now in
    let call = c.composite_runs in
    solid_row s.brush.style.mode s.strip.x s.strip.y (λ i. 255)
    (levels s.runs.now) c.args.row.now s.brush.ramp.now call.new.row s.brush.style.shade c.in-Solid.p c.in-Solid.is
    call.ensures

pub returns-in-Gradient : goal.returns-in-Gradient
returns-in-Gradient c =
    let s = c.args.self.now in
    let call = c.blend in
    gradient_blended s.brush.style.mode s.strip.x s.strip.y (λ i. 255)
    (levels s.runs.now) c.args.row.now s.brush.ramp.now call.new.row s.brush.style.shade c.in-Gradient.g
    c.in-Gradient.is call.ensures
