-- `fixed::convert::stop_offset` meets its contract.
use Rattle.std.proofs.Common.{◌≡◌, true, T, not, ℤ, pos, nat_abs, sym, ap, ◌∙◌, Ok}
use native.Mathlib.Nat.{lt_of_le_of_lt}
use borrow.Author.Rules.{rules, sfits_of}
use lib.Dec.{lit<}
use lib.Ieee.{of_bits, is_nan}
use mir.Syntax.{w64}
use mir.Val.{to_z, of_z}
use mir.Facts.{to_z-of_z}
use Rattle.fixed.specs.Floats.{scaled, in_unit}
use Rattle.fixed.proofs.Nans.{only_nan}
use Rattle.fixed.proofs.Scaled.{unit_nonneg, unit_size, unit_limited}
use Rattle.fixed.proofs.Answers.{offset_in_lem, offset_out}
use Rattle.fixed.proofs.Offsets.{unit_limit, below_zero}
use Rattle.fixed.proofs.convert.stop_offset.Goals as goal
use Rattle.fixed.proofs.convert.stop_offset.Goals.{else-v-via-then-v+else-at_most, else-v-via-else-v}

-- v is from 0 to 1
unit : (c : goal.Then-at_most) → in_unit c.args.v ≡ true
unfolding of_bits
unit c = unit_limit c.args.v c.if-v.true ∙ sym c.at_most.ensures ∙ c.if-at_most.true

-- what the local holds
held : (c : goal.After-to_whole) → to_z w64 (of_z w64 c.to_whole.result) ≡ pos (nat_abs (scaled 65536 c.args.v))
held c = to_z-of_z {w = w64} (sfits_of c.to_whole.type_inv) ∙ c.to_whole.ensures ∙ unit_nonneg 65536 c.args.v (unit c.before)

pub returns-then-is_nan : goal.returns-then-is_nan
returns-then-is_nan c = rw (only_nan c.args.v cc)

pub to_whole-requires : goal.to_whole-requires
to_whole-requires c = (search rules, unit_limited c.args.v (unit c))

pub overflow_cast-result : goal.overflow_cast-result
overflow_cast-result c = rw (held c) (tt, record { fits = lt_of_le_of_lt (unit_size 65536 c.args.v (unit c.before)) (lit< tt) })

pub returns-then-at_most : goal.returns-then-at_most
returns-then-at_most c =
    ap (λ (y : ℤ). Ok (nat_abs y)) (held c) ∙ sym (offset_in_lem c.args.v (unit c.before))

pub returns-else-v : goal.returns-else-v
unfolding of_bits
returns-else-v c =
    let v = c.args.v in
    let number : T (not (is_nan v)) = c.if-is_nan.ensures.not_nan in
    sym (offset_out v number (elim c.else-v.branch [
      | else-v-via-then-v+else-at_most w ↦ unit_limit v w.if-v.true ∙ sym w.at_most.ensures ∙ w.if-at_most.false
      | else-v-via-else-v w ↦ below_zero v w.if-v.false
    ]))
