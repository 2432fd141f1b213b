-- `decode::radial` meets its contract.
use mathlib.Core.Path.{ap, ◌∙◌}
use Rattle.paint.specs.Radial.{focal_allowed}
use Rattle.engine.proofs.Paints.{circle_limited, focal_kept}
use Rattle.engine.proofs.decode.radial.Goals as goal

pub make_ramp-count-requires : goal.make_ramp-count-requires
make_ramp-count-requires c =
    record { d_len = (c.requires.d_len.0, c.requires.d_len.1); ramp_numbers_in_bounds = c.requires.ramp_numbers_in_bounds }

pub fixed_circle-requires : goal.fixed_circle-requires
fixed_circle-requires c =
    let a = c.args in
    let p = c.requires.d_len in
    record { cx_value = (circle_limited a.d.now a.p p.1 p.2).0; fx_value = (circle_limited a.d.now a.p p.1 p.2).1 }

pub returns : goal.returns
returns c =
    let circle = c.fixed_circle in
    record {
      circle = circle.ensures.0;
      spread = c.spread.ensures;
      premultiply = c.ramp_premultiplied.ensures;
      ramp = c.make_ramp-count.ensures;
      limited = circle.ensures.1;
      focal = ap focal_allowed circle.ensures.0 ∙ focal_kept c.args.d.now c.args.p c.requires.d_len.1 c.requires.d_len.2;
    }
