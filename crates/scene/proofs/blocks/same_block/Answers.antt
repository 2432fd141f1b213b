use mathlib.Core.Path.{ap, ◌∙◌}
use mathlib.Core.Bool.{Bool, ◌&&◌}
use Prim.Native.Nat.{◌+◌, ◌*◌}
use lib.Dec.{eqb}
use lib.ListN.{get_or}
use Rattle.scene.specs.Layout.{block_bytes}
use Rattle.scene.specs.Blocks.{block_of}
use Rattle.scene.proofs.Same.{draw_more}
use Rattle.scene.proofs.blocks.same_block.Goals as goal

pub loop-k-preserved : goal.loop-k-preserved
loop-k-preserved c =
    let a = c.args in
    let l = c.loop-k in
    let at = block_bytes * (block_of a.i + a.j) + l.k in
    c.still_same-same.ensures
    ∙ ap (λ (b : Bool). b && eqb (get_or a.s.now at 0) (get_or a.t.now at 0)) l.invariant
    ∙ draw_more a.s.now a.t.now a.i a.j l.k c.requires.i_in_bounds.0 c.requires.i_in_bounds.1 c.requires.i_in_bounds.2 c.loop-k-test.true
