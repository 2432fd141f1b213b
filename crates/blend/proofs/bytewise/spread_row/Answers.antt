-- `blend::spread_row` meets its contract: the pixels before i are stored, and the others are as they were. Assumes nothing.
use native.Mathlib.Omega.{arith}
use Rattle.raster.proofs.Runs.{stored_turn, stored_all}
use Rattle.blend.proofs.bytewise.spread_row.Goals as goal

pub loop-i-preserved : goal.loop-i-preserved
loop-i-preserved c =
    let made = c.four in
    let put = c.put_pixel in
    stored_turn c.loop-i.invariant put.new.s made.result put.ensures made.ensures (omega (arith, c.requires))

pub returns : goal.returns
returns c =
    stored_all c.loop-i.invariant c.args.n (omega arith) c.requires.1
