-- `build::close_ramp` meets its contract.
use Rattle.std.proofs.Common.{◌-◌, [], ◌∷◌, ◌++◌, sym, ap, ◌∙◌, ap₂, arith}
use Rattle.color.specs.declared.Pixel.{Pixel}
use Rattle.paint.specs.Gradient.{ramp_unit}
use Rattle.paint.specs.Ramps.{stop}
use Rattle.paint.specs.Buffers.{stops_in}
use Rattle.paint.proofs.Built.{none_written, so_written}
use Rattle.paint.proofs.Ends.{closed_none, closed_there, closed_more}
use Rattle.paint.proofs.build.close_ramp.Goals as goal

pub gray-requires : goal.gray-requires
gray-requires c =
    tt

pub gray-requires-then-count-eq0 : goal.gray-requires-then-count-eq0
gray-requires-then-count-eq0 c =
    tt

pub returns-then-count-eq0 : goal.returns-then-count-eq0
returns-then-count-eq0 c =
    let a = c.args in
    let both = ap₂ (λ (p q : Pixel). stop 0 p ∷ stop ramp_unit q ∷ []) c.gray.ensures c.gray-then-count-eq0.ensures in
    record {
      written = so_written c.two_stops.ensures (both ∙ sym (closed_none a.ramp.now a.count c.if-count-eq0.true));
      lower_bound = (
        omega arith,
        omega arith,
      );
    }

pub returns-then-ramp-last-eq-END : goal.returns-then-ramp-last-eq-END
returns-then-ramp-last-eq-END c =
    let a = c.args in
    let there = closed_there a.ramp.now a.count (a.count - 1) (omega arith) c.if-ramp-last-eq-END.true in
    record { written = so_written (none_written a.ramp.now a.count) (sym there); lower_bound = (omega arith, omega arith) }

pub stop_color-c-requires : goal.stop_color-c-requires
stop_color-c-requires c =
    omega arith

pub returns : goal.returns
returns c =
    let a = c.args in
    let more = closed_more a.ramp.now a.count (a.count - 1) (omega (arith, c.if-count-eq0.false)) c.if-ramp-last-eq-END.false in
    let copied = ap (λ (q : Pixel). stops_in a.ramp.now a.count ++ (stop ramp_unit q ∷ [])) c.stop_color-c.ensures in
    record { written = so_written c.push.ensures (copied ∙ sym more); lower_bound = (omega arith, omega arith) }
