-- `positions::cut` meets its contract.
use Rattle.std.proofs.Common.{nat_abs, ap, ◌∙◌}
use mir.Syntax.{w32}
use mir.Facts.{to_z-of_z}
use Rattle.fixed.proofs.Signed.{back}
use Rattle.paint.proofs.Placing.{cut_same}
use Rattle.paint.proofs.positions.cut.Goals as goal

pub returns : goal.returns
returns c =
    let cut = back w32 c.clamp.result c.clamp.type_inv ∙ rw (to_z-of_z c.ranges.t) at c.clamp.ensures.value in
    ap nat_abs (cut ∙ cut_same c.args.t)
