-- `build::keep_stop` meets its contract.
use Rattle.std.proofs.Common.{◌≡◌, ℕ, ◌-◌, false, List, [], ◌∷◌, map, refl, sym, ap, ◌∙◌, arith}
use Rattle.std.specs.Prelude.{Result, Ok, Err, is_ok}
use Rattle.fixed.specs.declared.OffsetError.{OffsetError}
use Rattle.color.specs.declared.Pixel.{Pixel}
use Rattle.paint.specs.Ramps.{kept_at, stop, prepared}
use Rattle.paint.specs.Buffers.{stops_in, grown}
use Rattle.paint.specs.declared.Stop.{Stop}
use Rattle.paint.proofs.Built.{none_written, so_written}
use Rattle.paint.proofs.Ends.{kept_none, kept_one, grown_first, grown_more}
use Rattle.paint.proofs.build.keep_stop.Goals as goal
use Rattle.paint.proofs.build.keep_stop.Tie as tie
use Rattle.paint.proofs.build.keep_stop.Lts as lts
use Rattle.paint.proofs.build.keep_stop.Reads as reads

no_offset : (o : Result ℕ OffsetError) → ((x : ℕ) → o ≡ Ok x → ⊥) → is_ok o ≡ false
no_offset (Ok x) h = absurd (h x refl)
no_offset (Err e) h = refl

-- the stop that is kept
abbrev kept : lts.After-color_at tie.the-claims reads.Pre reads.Post tie.handed_clauses → Stop
kept c = stop c.in-Ok.x c.color_at-c.result

kept_is : (c : lts.After-color_at tie.the-claims reads.Pre reads.Post tie.handed_clauses)
    → let a = c.args in map (prepared a.premultiply) (kept_at a.stops.now a.i) ≡ kept c ∷ []
kept_is c =
    let a = c.args in
    let r = c.offset_at in
    ap (map (prepared a.premultiply)) (kept_one a.stops.now a.i c.in-Ok.x r.result r.ensures c.in-Ok.is)
    ∙ ap (λ (q : Pixel). stop c.in-Ok.x q ∷ []) (sym c.color_at-c.ensures)

pub returns-in_default : goal.returns-in_default
returns-in_default c =
    let a = c.args in
    let r = c.offset_at in
    let before = stops_in a.ramp.now a.count in
    let none = kept_none a.stops.now a.i r.result r.ensures (no_offset r.result c.in_default.not-Ok) in
    record {
      written = so_written (none_written a.ramp.now a.count) (sym (ap (λ (l : List Stop). grown before (map (prepared a.premultiply) l)) none));
      lower_bound = (omega arith, omega arith);
    }

pub first_stop-requires : goal.first_stop-requires
first_stop-requires c =
    c.requires.ramp_numbers_in_bounds

pub returns-then-count-eq0 : goal.returns-then-count-eq0
returns-then-count-eq0 c =
    let a = c.args in
    let before = stops_in a.ramp.now a.count in
    let call = c.first_stop.ensures in
    let first = ap (grown before) (kept_is c.before.before.before.before.before.before)
    ∙ grown_first a.ramp.now a.count (kept c.before.before.before.before.before.before) c.if-count-eq0.true in
    record { written = so_written call.written (sym first); lower_bound = (omega (arith, c.if-count-eq0.true), omega (arith, call.upper_bound)) }

pub push-requires : goal.push-requires
push-requires c =
    (omega arith, c.requires.ramp_numbers_in_bounds)

pub returns : goal.returns
returns c =
    let a = c.args in
    let before = stops_in a.ramp.now a.count in
    let more = ap (grown before) (kept_is c.before.before.before.before.before.before)
    ∙ grown_more a.ramp.now a.count (a.count - 1) (kept c.before.before.before.before.before.before) (omega (arith, c.if-count-eq0.false)) in
    record { written = so_written c.push.ensures (sym more); lower_bound = (omega arith, omega arith) }
