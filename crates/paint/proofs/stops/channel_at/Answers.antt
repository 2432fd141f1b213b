-- `stops::channel_at` meets its contract.
use Rattle.std.proofs.Common.{sym, ap, ◌∙◌}
use Rattle.std.specs.Prelude.{is_some}
use Rattle.color.specs.Channels.{channel_byte}
use Rattle.paint.proofs.Reals.{read_nan, read_number, nan_channel}
use Rattle.paint.proofs.stops.channel_at.Goals as goal

pub returns-in-None : goal.returns-in-None
returns-in-None c =
    let a = c.args in
    let r = c.f32_at in
    sym (ap channel_byte (read_nan a.stops.now a.at r.result r.ensures (ap is_some c.in-None.is)) ∙ nan_channel)

pub returns-in-Some : goal.returns-in-Some
returns-in-Some c =
    let a = c.args in
    let r = c.f32_at in
    c.channel_byte.ensures ∙ ap channel_byte (read_number a.stops.now a.at r.result c.in-Some.v r.ensures c.in-Some.is)
