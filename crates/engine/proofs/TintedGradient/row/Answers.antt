-- `TintedGradient::row` meets its contract: the gradient's pixels, transformed.
use native.Mathlib.Omega.{arith}
use Prim.Native.Nat.{◌+◌}
use mathlib.Core.Path.{◌∙◌}
use Rattle.paint.specs.Circles.{gradient_at}
use Rattle.engine.proofs.RowLaws.{tinted_pixels}
use Rattle.engine.proofs.TintedGradient.row.Goals as goal

pub gradient_row-requires : goal.gradient_row-requires
gradient_row-requires c =
    let on = c.args.strip.on_surface in
    record { held_gradient = c.requires.held_gradient; n_bound = (on.1, omega (arith, on.0), c.requires.paints_len) }

pub tint_row-requires : goal.tint_row-requires
tint_row-requires c =
    c.gradient_row.auto.row ∙ c.requires.paints_len

pub returns : goal.returns
returns c =
    let a = c.args in
    let s = a.strip in
    tinted_pixels s.length c.gradient_row.new.row a.self.tint (λ i. gradient_at a.self.gradient a.ramp.now (s.x + i) s.y) c.tint_row.new.row
    c.gradient_row.ensures c.tint_row.ensures
