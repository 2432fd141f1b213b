-- `stops::offset_at` meets its contract.
use Rattle.std.proofs.Common.{◌*◌, sym, ap, ◌∙◌}
use Rattle.std.specs.Prelude.{is_some}
use Rattle.fixed.specs.Floats.{offset_in}
use Rattle.paint.proofs.Reals.{read_nan, read_number}
use Rattle.paint.proofs.stops.offset_at.Goals as goal

pub returns-in-None : goal.returns-in-None
returns-in-None c =
    let a = c.args in
    let r = c.f32_at in
    sym (ap offset_in (read_nan a.stops.now (20 * a.i) r.result r.ensures (ap is_some c.in-None.is)))

pub returns-in-Some : goal.returns-in-Some
returns-in-Some c =
    let a = c.args in
    let r = c.f32_at in
    c.stop_offset.ensures ∙ ap offset_in (read_number a.stops.now (20 * a.i) r.result c.in-Some.v r.ensures c.in-Some.is)
