-- `stops::falls_at` meets its contract.
use Rattle.std.proofs.Common.{◌-◌, ◌*◌, ◌∙◌}
use Rattle.paint.proofs.Reals.{less_read}
use Rattle.paint.proofs.stops.falls_at.Goals as goal

pub returns : goal.returns
returns c =
    let a = c.args in
    c.less.ensures ∙ rw (c.f32_at.ensures, c.f32_at-2.ensures) (less_read a.stops.now (20 * a.i) (20 * (a.i - 1)))
