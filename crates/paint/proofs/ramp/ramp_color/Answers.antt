-- `ramp::ramp_color` meets its contract.
use Rattle.std.proofs.Common.{◌≡◌, ◌-◌, true, false, ℤ, pos, nat_abs, sym, ap, ◌∙◌, arith, to_z-of_z}
use lib.Signed.{lt_z}
use Rattle.paint.specs.Ramps.{between}
use Rattle.paint.specs.Buffers.{stop_at, stops_from}
use Rattle.paint.proofs.Lookup.{ramp_before, ramp_within, ramp_after, in_range_lem}
use Rattle.paint.proofs.ramp.ramp_color.Goals as goal
use Rattle.paint.proofs.ramp.ramp_color.Tie as tie
use Rattle.paint.proofs.ramp.ramp_color.Lts as lts
use Rattle.paint.proofs.ramp.ramp_color.Reads as reads

below_zero : (c : lts.Then1 tie.the-claims reads.Pre reads.Post) → lt_z c.args.t (pos 0) ≡ true
below_zero c = rw (to_z-of_z c.ranges.t) at c.if-t-lt0.true

from_zero : (c : lts.Else1 tie.the-claims reads.Pre reads.Post) → lt_z c.args.t (pos 0) ≡ false
from_zero c = rw (to_z-of_z c.ranges.t) at c.if-t-lt0.false

below_unit : (c : lts.Then2 tie.the-claims reads.Pre reads.Post)
    → lt_z c.args.t (pos 65536) ≡ true
below_unit c =
    rw (to_z-of_z c.ranges.t) at c.if-t-lt-RAMP_UNIT.true

from_unit : (c : lts.Else2 tie.the-claims reads.Pre reads.Post)
    → lt_z c.args.t (pos 65536) ≡ false
from_unit c =
    rw (to_z-of_z c.ranges.t) at c.if-t-lt-RAMP_UNIT.false

pub returns-then-t-lt0 : goal.returns-then-t-lt0
returns-then-t-lt0 c =
    let a = c.args in
    c.stop_color.ensures ∙ sym (ramp_before a.ramp.now a.count (a.count - 1) (omega (arith, c.requires.some)) a.t (below_zero c.before.before))

pub overflow_cast-t : goal.overflow_cast-t
overflow_cast-t c =
    let r = in_range_lem c.args.t (from_zero c.before.before) (below_unit c.before) in
    rw (to_z-of_z c.ranges.t) (r.0, omega (arith, r.1))

pub color_between-requires : goal.color_between-requires
color_between-requires c =
    c.requires

pub returns-then-t-lt-RAMP_UNIT : goal.returns-then-t-lt-RAMP_UNIT
returns-then-t-lt-RAMP_UNIT c =
    let a = c.args in
    let within = ramp_within a.ramp.now a.count (a.count - 1) (omega (arith, c.requires.some)) a.t (from_zero c.before.before.before)
    (below_unit c.before.before) in
    c.color_between.ensures
    ∙ ap (λ (z : ℤ). between (stop_at a.ramp.now 0) (stops_from a.ramp.now 1 (a.count - 1)) (nat_abs z)) (to_z-of_z c.ranges.t)
    ∙ sym within

pub returns : goal.returns
returns c =
    let a = c.args in
    c.stop_color-2.ensures
    ∙ sym (ramp_after a.ramp.now a.count (a.count - 1) (omega (arith, c.requires.some)) a.t (from_zero c.before.before.before) (from_unit c.before.before))
