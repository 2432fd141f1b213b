-- `build::build_ramp` meets its contract.
use Rattle.std.proofs.Common.{◌≤◌, length, sym, ap, ◌∙◌, arith}
use Rattle.paint.specs.Buffers.{ramp_numbers, closed}
use Rattle.paint.proofs.Built.{then_written, so_written}
use Rattle.paint.proofs.Ends.{ramp_fallen, ramp_kept}
use Rattle.paint.proofs.Sound.{ramp_held}
use Rattle.paint.proofs.build.build_ramp.Goals as goal

pub close_ramp-requires : goal.close_ramp-requires
close_ramp-requires c =
    (omega arith, c.requires.ramp_numbers_in_bounds)

pub returns-then-falls : goal.returns-then-falls
returns-then-falls c =
    let a = c.args in
    let r = c.close_ramp in
    let fallen = ramp_fallen a.premultiply a.stops.now a.n (sym c.falls.ensures ∙ c.if-falls.true) in
    let w = so_written r.ensures.written (sym fallen) in
    record { written = w; held_ramp = ramp_held r.new.ramp a.premultiply a.stops.now a.n r.result (omega (arith, r.auto.ramp)) r.ensures.lower_bound.1 w.stops }

pub keep_stops-count-requires : goal.keep_stops-count-requires
keep_stops-count-requires c =
    record { n_bound = c.requires.n_bound; ramp_numbers_in_bounds = c.requires.ramp_numbers_in_bounds }

pub close_ramp-requires-2 : goal.close_ramp-requires-2
close_ramp-requires-2 c =
    let k = c.keep_stops-count in
    (omega (arith, k.ensures.upper_bound), omega (arith, k.auto.ramp, c.requires.ramp_numbers_in_bounds))

pub shape_of-ramp : goal.shape_of-ramp
shape_of-ramp c =
    c.close_ramp-2.auto.ramp ∙ c.keep_stops-count.auto.ramp

pub returns : goal.returns
returns c =
    let a = c.args in
    let r = c.close_ramp-2 in
    let k = c.keep_stops-count in
    let kept = ramp_kept a.premultiply a.stops.now a.n (sym c.falls.ensures ∙ c.if-falls.false) in
    let w = then_written k.ensures.written r.ensures.lower_bound.0 r.ensures.written (ap closed k.ensures.written.stops ∙ sym kept) in
    let long : ramp_numbers ≤ length r.new.ramp = omega (arith, r.auto.ramp, k.auto.ramp, c.requires.ramp_numbers_in_bounds) in
    record { written = w; held_ramp = ramp_held r.new.ramp a.premultiply a.stops.now a.n r.result long r.ensures.lower_bound.1 w.stops }
