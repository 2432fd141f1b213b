-- `row::solid_pixel` meets its contract.
use Rattle.std.proofs.Common.{ap, ◌∙◌}
use Rattle.color.specs.Channels.{premultiplied}
use Rattle.paint.proofs.row.solid_pixel.Goals as goal

pub to_bytes-requires : goal.to_bytes-requires
to_bytes-requires c =
    tt

pub premultiplied-requires : goal.premultiplied-requires
premultiplied-requires c =
    tt

pub returns : goal.returns
returns c =
    c.premultiplied.ensures ∙ ap premultiplied c.to_bytes.ensures
