-- `decode::shade` meets its contract, paint by paint.
use mathlib.Core.Path.{sym, ◌∙◌}
use Rattle.engine.proofs.Paints.{solid_shades, linear_shades, radial_shades}
use Rattle.engine.proofs.decode.shade.Goals as goal

pub linear-requires : goal.linear-requires
linear-requires c =
    record {
      d_len = (c.requires.d_len.0, c.requires.d_len.1, sym c.paint-paint.ensures.0 ∙ c.in-Linear.is);
      ramp_numbers_in_bounds =
          c.requires.ramp_numbers_in_bounds;
    }

pub radial-requires : goal.radial-requires
radial-requires c =
    record {
      d_len = (c.requires.d_len.0, c.requires.d_len.1, sym c.paint-paint.ensures.0 ∙ c.in-Radial.is);
      ramp_numbers_in_bounds =
          c.requires.ramp_numbers_in_bounds;
    }

pub returns-in-Solid : goal.returns-in-Solid
returns-in-Solid c =
    let tint = c.tint-tint in
    let a = c.args in
    let pixel = c.solid_pixel in
    solid_shades a.d.now tint.result tint.ensures c.in-Solid.c pixel.result c.tinted.result a.ramp.now
    (sym c.paint-paint.ensures.0 ∙ c.in-Solid.is) pixel.ensures c.tinted.ensures

pub returns-in-Linear : goal.returns-in-Linear
returns-in-Linear c =
    let tint = c.tint-tint in
    let a = c.args in
    let call = c.linear in
    linear_shades a.d.now tint.result tint.ensures a.ramp.now call.new.ramp c.in-Linear.p call.result
    (sym c.paint-paint.ensures.0 ∙ c.in-Linear.is) call.ensures

pub returns-in-Radial : goal.returns-in-Radial
returns-in-Radial c =
    let tint = c.tint-tint in
    let a = c.args in
    let call = c.radial in
    radial_shades a.d.now tint.result tint.ensures a.ramp.now call.new.ramp c.in-Radial.p call.result
    (sym c.paint-paint.ensures.0 ∙ c.in-Radial.is) call.ensures
