-- `radial_row::position_of` meets its contract: a gradient that pads maps t to itself.
use Rattle.std.proofs.Common.{pos, sym, ap, ◌∙◌, w64}
use Rattle.fixed.proofs.Means.{of_nat}
use Rattle.paint.specs.Buffers.{Pads}
use Rattle.paint.specs.Segments.{position_of}
use Rattle.paint.proofs.Folded.{leaves_t}
use Rattle.paint.proofs.Placing.{on_ramp, behind}
use Rattle.paint.proofs.radial_row.position_of.Goals as goal
use Rattle.paint.proofs.radial_row.position_of.Tie as tie
use Rattle.paint.proofs.radial_row.position_of.Lts as lts
use Rattle.paint.proofs.radial_row.position_of.Reads as reads

unmapped : (c : lts.Then1 tie.the-claims reads.Pre reads.Post) → Pads c.args.spread
unmapped c = leaves_t _ (sym c.pads.ensures ∙ c.if-pads.true)

pub pads-requires : goal.pads-requires
pads-requires c =
    tt

pub returns-then-t-lt65536 : goal.returns-then-t-lt65536
returns-then-t-lt65536 c =
    on_ramp c.args.t c.if-t-lt65536.true
    ∙ ap position_of (sym ((unmapped c.before).same (pos c.args.t)))

pub returns-else-t-lt65536 : goal.returns-else-t-lt65536
returns-else-t-lt65536 c =
    behind c.args.t c.if-t-lt65536.false
    ∙ ap position_of (sym ((unmapped c.before).same (pos c.args.t)))

pub position-requires : goal.position-requires
position-requires c =
    tt

pub returns : goal.returns
returns c =
    c.position.ensures ∙ rw (of_nat w64 c.args.t 140737488355328 c.requires tt).same
