use mathlib.Core.Path.{◌≡◌}
use Prim.Native.Nat.{◌+◌, ◌*◌}
use Rattle.scene.specs.Layout.{payload_bytes}
use Rattle.scene.specs.Blocks.{draw_of, same_to}
use Rattle.scene.proofs.blocks.same_block.Given as goal

abbrev pub invariant-loop-k : goal.invariant-loop-k
invariant-loop-k l =
    l.same ≡ same_to (draw_of l.s l.i) (draw_of l.t l.i) (payload_bytes * l.j + l.k)
