-- `rows::FillArea::draw` meets its contract: a row takes as much of the buffer and of the runs as it has pixels.
use native.Mathlib.Omega.{arith}
use Rattle.engine.proofs.rows.FillArea.draw.Goals as goal

pub overflow_sub-n : goal.overflow_sub-n
overflow_sub-n c =
    omega (arith, c.requires.part.placed.on.across)
