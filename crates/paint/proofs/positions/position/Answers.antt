-- `positions::position` meets its contract.
use Rattle.std.proofs.Common.{◌≡◌, ◌+◌, true, false, ℤ, pos, nat_abs, ap, ◌∙◌, arith, to_z-of_z, w64, to_z, of_z}
use lib.Signed.{lt_z}
use Rattle.fixed.proofs.Signed.{back}
use Rattle.paint.specs.Gradient.{mapped}
use Rattle.paint.specs.Segments.{position_of}
use Rattle.paint.proofs.Lookup.{in_range_lem}
use Rattle.paint.proofs.positions.position.Goals as goal
use Rattle.paint.proofs.positions.position.Tie as tie
use Rattle.paint.proofs.positions.position.Lts as lts
use Rattle.paint.proofs.positions.position.Reads as reads

-- what the local holds
mapped-is : (c : lts.After-spread tie.the-claims reads.Pre reads.Post) → to_z w64 (of_z w64 c.spread-u.result) ≡ mapped c.args.spread c.args.t
mapped-is c = back w64 c.spread-u.result c.spread-u.type_inv ∙ c.spread-u.ensures ∙ rw (to_z-of_z c.ranges.t)

from_zero : (c : lts.Else1 tie.the-claims reads.Pre reads.Post) → lt_z (mapped c.args.spread c.args.t) (pos 0) ≡ false
from_zero c = rw (mapped-is c.before) at c.if-u-lt0.false

below_unit : (c : goal.Then-u-lt-RAMP_UNIT)
    → lt_z (mapped c.args.spread c.args.t) (pos 65536) ≡ true
below_unit c = rw (mapped-is c.before.before) at c.if-u-lt-RAMP_UNIT.true

pub spread-u-requires : goal.spread-u-requires
spread-u-requires c =
    tt

pub returns-then-u-lt0 : goal.returns-then-u-lt0
unfolding position_of
returns-then-u-lt0 c =
    let b : lt_z (mapped c.args.spread c.args.t) (pos 0) ≡ true = rw (mapped-is c.before) at c.if-u-lt0.true in
    rw b

pub overflow_cast-result : goal.overflow_cast-result
overflow_cast-result c =
    let r = in_range_lem (mapped c.args.spread c.args.t) (from_zero c.before) (below_unit c) in
    rw (mapped-is c.before.before) (r.0, omega (arith, r.1))

pub overflow_add-result : goal.overflow_add-result
overflow_add-result c =
    let r = in_range_lem (mapped c.args.spread c.args.t) (from_zero c.before) (below_unit c) in
    rw (mapped-is c.before.before) (omega (arith, r.1))

pub returns-then-u-lt-RAMP_UNIT : goal.returns-then-u-lt-RAMP_UNIT
unfolding position_of
returns-then-u-lt-RAMP_UNIT c =
    rw (from_zero c.before, below_unit c) (ap (λ (z : ℤ). nat_abs z + 1) (mapped-is c.before.before))

pub returns : goal.returns
unfolding position_of
returns c =
    let b : lt_z (mapped c.args.spread c.args.t) (pos 65536) ≡ false = rw (mapped-is c.before.before) at c.if-u-lt-RAMP_UNIT.false in
    rw (from_zero c.before, b)
