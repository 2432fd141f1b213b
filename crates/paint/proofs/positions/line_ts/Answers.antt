-- `positions::line_ts` meets its contract, by either loop.
use Rattle.std.proofs.Common.{to_z-of_z}
use Rattle.paint.proofs.positions.line_ts.Goals as goal

pub inner_ts-requires : goal.inner_ts-requires
inner_ts-requires c =
    let ends = c.is_on_ramp.ensures c.if-is_on_ramp.true in
    (ends.0, ends.1, c.requires.right_len.0)

pub returns-then-is_on_ramp : goal.returns-then-is_on_ramp
returns-then-is_on_ramp c =
    let e = rw (to_z-of_z c.ranges.first, to_z-of_z c.ranges.step) at c.inner_ts.ensures in record { left_after = e.left_after; right_after = e.right_after }

pub returns : goal.returns
returns c =
    let e = rw (to_z-of_z c.ranges.first, to_z-of_z c.ranges.step) at c.cut_ts.ensures in record { left_after = e.left_after; right_after = e.right_after }
