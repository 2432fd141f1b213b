-- `positions::padded` meets its contract: t is cut to -1..65,536.
use Rattle.std.proofs.Common.{pos, nat_abs, ap, ◌∙◌}
use mir.Syntax.{w32}
use mir.Facts.{to_z-of_z}
use Rattle.fixed.proofs.Means.{Num, keep}
use Rattle.fixed.proofs.Signed.{back}
use Rattle.paint.specs.Segments.{position_of}
use Rattle.paint.proofs.Placing.{cut_next, position_small}
use Rattle.paint.proofs.positions.padded.Goals as goal

pub returns : goal.returns
returns c =
    let t = c.args.t in
    let cut = back w32 c.clamp.result c.clamp.type_inv ∙ rw (to_z-of_z c.ranges.t) at c.clamp.ensures.value in
    let next : Num = record { bound = 65537; read = _; int = pos (position_of t); same = cut_next _ t cut; size = record { size = position_small t } } in
    ap nat_abs (keep w32 next tt).same
