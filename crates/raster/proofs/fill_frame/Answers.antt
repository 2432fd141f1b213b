-- `raster::fill_frame` meets its contract: the four parts are filled.
use Rattle.raster.proofs.Around.{frame_filled}
use Rattle.raster.proofs.fill_frame.Goals as goal

pub returns : goal.returns
returns c =
    let a = c.args in
    let below = c.fill_part in
    let left = c.fill_part-2 in
    let right = c.fill_part-3 in
    let above = c.fill_part-4 in
    frame_filled a.t a.hole c.requires.1 a.p a.s.now below.new.s left.new.s right.new.s above.new.s below.ensures
    left.ensures right.ensures above.ensures
