-- `decode::linear` meets its contract.
use Rattle.engine.proofs.Paints.{points_limited}
use Rattle.engine.proofs.decode.linear.Goals as goal

pub make_ramp-count-requires : goal.make_ramp-count-requires
make_ramp-count-requires c =
    record { d_len = (c.requires.d_len.0, c.requires.d_len.1); ramp_numbers_in_bounds = c.requires.ramp_numbers_in_bounds }

pub fixed_points-requires : goal.fixed_points-requires
fixed_points-requires c =
    let a = c.args in
    let p = c.requires.d_len in
    points_limited a.d.now a.p p.1 p.2

pub returns : goal.returns
returns c =
    let points = c.fixed_points in
    record {
      points = points.ensures.0;
      spread = c.spread.ensures;
      premultiply = c.ramp_premultiplied.ensures;
      ramp = c.make_ramp-count.ensures;
      limited = points.ensures.1;
    }
