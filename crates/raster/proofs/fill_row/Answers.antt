-- `raster::fill_row` meets its contract: the pixels before i are stored.
use mathlib.Core.Path.{refl}
use native.Mathlib.Omega.{arith}
use Rattle.raster.proofs.Runs.{stored_none, stored_turn, stored_all}
use Rattle.raster.proofs.fill_row.Goals as goal

pub loop-i-init : goal.loop-i-init
loop-i-init c =
    stored_none _ _

pub loop-i-preserved : goal.loop-i-preserved
loop-i-preserved c =
    let call = c.put_pixel in
    stored_turn c.loop-i.invariant call.new.s c.args.p call.ensures refl (omega arith)

pub returns : goal.returns
returns c =
    stored_all c.loop-i.invariant c.args.n (omega arith) c.requires
