-- `build::keep_stops` meets its contract: what is kept of the stops before i is written.
use Rattle.std.proofs.Common.{◌≡◌, ℕ, List, map, sym, refl, ap, ◌∙◌, arith}
use Rattle.lists.specs.Lists.{upto}
use Rattle.lists.proofs.Laws.{upto_more}
use Rattle.paint.specs.Ramps.{kept_at, prepared}
use Rattle.paint.specs.Buffers.{with_first, grown}
use Rattle.paint.specs.declared.Stop.{Stop}
use Rattle.paint.proofs.Built.{none_written, then_written, so_written}
use Rattle.paint.proofs.Ends.{kept_turn}
use Rattle.paint.proofs.build.keep_stops.Goals as goal

pub loop-i-init : goal.loop-i-init
loop-i-init c =
    (omega arith, refl, none_written c.args.ramp.now 0)

pub keep_stop-count-requires : goal.keep_stop-count-requires
keep_stop-count-requires c =
    let l = c.loop-i in
    record { i_bound = (omega arith, omega arith, l.invariant.0); ramp_numbers_in_bounds = omega (arith, l.invariant.1) }

pub loop-i-preserved : goal.loop-i-preserved
loop-i-preserved c =
    let l = c.loop-i in
    let a = c.args in
    let k = c.keep_stop-count in
    let kept = upto l.i (kept_at a.stops.now) in
    let more = ap (λ (r : List Stop). grown r (map (prepared a.premultiply) (kept_at a.stops.now l.i))) l.invariant.2.stops
    ∙ kept_turn a.premultiply a.stops.now l.i kept
    ∙ ap (λ (r : List Stop). with_first (map (prepared a.premultiply) r)) (sym (upto_more l.i (kept_at a.stops.now))) in (
      omega (arith, k.ensures.lower_bound.1),
      k.auto.ramp ∙ l.invariant.1,
      then_written l.invariant.2 k.ensures.lower_bound.0 k.ensures.written
          more,
    )

pub shape_of-ramp : goal.shape_of-ramp
shape_of-ramp c =
    c.loop-i.invariant.1

pub returns : goal.returns
returns c =
    let l = c.loop-i in
    let a = c.args in
    let e : l.i ≡ a.n = omega arith in
    record {
      written = so_written l.invariant.2 (ap (λ (k : ℕ). with_first (map (prepared a.premultiply) (upto k (kept_at a.stops.now)))) e);
      upper_bound = omega arith;
    }
