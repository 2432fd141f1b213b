-- `positions::position_in_parts` meets its contract: two floors are one.
use Rattle.std.proofs.Common.{ap, ◌∙◌, w32, w64}
use Rattle.fixed.proofs.Means.{Num, need, keep, shr, tight}
use Rattle.paint.specs.Segments.{position_of}
use Rattle.paint.proofs.Sizes.{sized}
use Rattle.paint.proofs.Along.{high_half, floor_twice}
use Rattle.paint.proofs.positions.position_in_parts.Goals as goal

abbrev high : goal.Start → Num
high c = tight 1610612736 (shr (sized 6917529027641081856 c.args.t tt c.requires) 4294967296) (high_half c.args.t c.requires)

abbrev shifted : goal.Start → Num
shifted c = shr (keep w32 (keep w64 (high c) tt) tt) 4096

pub overflow_cast-t : goal.overflow_cast-t
overflow_cast-t c =
    need (keep w64 (high c) tt) tt

pub padded-requires : goal.padded-requires
padded-requires c =
    tt

pub returns : goal.returns
returns c =
    c.padded.ensures ∙ ap position_of ((keep w32 (shifted c.before) tt).same ∙ floor_twice c.args.t)
