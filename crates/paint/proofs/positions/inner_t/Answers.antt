-- `positions::inner_t` meets its contract.
use Rattle.std.proofs.Common.{◌≡◌, ◌-◌, min, pos, nat_abs, ap, ◌∙◌, arith, w64}
use Rattle.fixed.specs.Floor.{floor_div}
use Rattle.fixed.proofs.Means.{Num, keep, shr}
use Rattle.paint.specs.Buffers.{line_parts}
use Rattle.paint.specs.Segments.{position_of}
use Rattle.paint.proofs.Sizes.{sized}
use Rattle.paint.proofs.Along.{inner_size, inner_is}
use Rattle.paint.proofs.positions.inner_t.Goals as goal

abbrev whole : goal.Start → Num
whole c = shr (sized 1152921504606846976 c.args.t tt (inner_size c.args.t c.requires)) 17592186044416

-- what the shift leaves
whole_is : (c : goal.Start) → (keep w64 (whole c) tt).read ≡ pos (min (position_of (floor_div c.args.t line_parts) - 1) 65535)
whole_is c = (keep w64 (whole c) tt).same ∙ inner_is c.args.t c.requires

pub overflow_cast-result : goal.overflow_cast-result
overflow_cast-result c =
    rw (whole_is c) (tt, omega arith)

pub returns : goal.returns
returns c =
    ap nat_abs (whole_is c)
