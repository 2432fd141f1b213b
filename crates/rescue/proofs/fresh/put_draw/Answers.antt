use mathlib.Core.Path.{◌≡◌, ◌∙◌}
use Prim.Native.Nat.{◌+◌, ◌-◌, ◌*◌}
use native.Mathlib.Omega.{arith}
use lib.ListN.{length}
use Rattle.lists.proofs.Laws.{part_length, take_end}
use Rattle.scene.specs.Layout.{block_bytes, draw_blocks}
use Rattle.rescue.specs.Fresh.{fresh_draw}
use Rattle.scene.proofs.Copies.{part_kept, part_turn}
use Rattle.rescue.proofs.fresh.put_draw.Invariants.{block}
use Rattle.rescue.proofs.fresh.put_draw.Goals as goal

pub loop-j-preserved : goal.loop-j-preserved
loop-j-preserved c =
    let put = c.put_block in
    let l = c.loop-j in
    let a = c.args in
    let at = block_bytes * l.j in
    let size : at + block_bytes - at ≡ block_bytes = omega arith in
    let q = put.new.block in
    let w : length q ≡ block_bytes = put.auto.block ∙ part_length l.out at (at + block_bytes) (omega arith) (omega arith) ∙ size in (
      part_kept l.out q at block_bytes (at + block_bytes - at) (omega arith) w size ∙ l.invariant.0,
      part_turn l.out q at block_bytes (at + block_bytes - at) (omega arith) w (block a.d.now a.i) l.j (block_bytes * (l.j + 1)) (omega arith)
          l.invariant.1 put.ensures,
    )

pub returns : goal.returns
unfolding fresh_draw
returns c =
    let l = c.loop-j in
    let e : l.j ≡ draw_blocks = omega arith in
    take_end _ l.out (block_bytes * l.j) l.j draw_blocks l.invariant.1 (omega arith) e
