-- `blend::keep_row` meets its contract: the pixels before i are stored, and the others are as they were. Assumes nothing.
use mathlib.Core.Path.{ap, ◌∙◌}
use native.Mathlib.Omega.{arith}
use Rattle.raster.proofs.Runs.{stored_turn, stored_all}
use Rattle.blend.specs.Spans.{keep_pixel}
use Rattle.blend.proofs.bytewise.keep_row.Goals as goal

pub loop-i-preserved : goal.loop-i-preserved
loop-i-preserved c =
    let made = c.kept in
    let put = c.put_pixel in
    stored_turn c.loop-i.invariant put.new.s made.result put.ensures (made.ensures ∙ ap keep_pixel c.pixel-p.ensures)
    (omega (arith, c.requires))

pub returns : goal.returns
returns c =
    stored_all c.loop-i.invariant c.args.n (omega arith) c.requires.1
