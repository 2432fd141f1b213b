use Rattle.std.proofs.Common.{◌≡◌, ◌*◌, arith}
use Rattle.scene.specs.Layout.{payload_bytes, draw_bytes}
use Rattle.scene.specs.Blocks.{same_draw}
use Rattle.scene.proofs.blocks.same_draw.Goals as goal

pub returns : goal.returns
unfolding same_draw
returns c =
    let l = c.loop-j in
    let e : payload_bytes * l.j ≡ draw_bytes = omega arith in
    rw e at l.invariant
