use mathlib.Core.Path.{◌≡◌}
use Prim.Native.Nat.{◌*◌}
use Rattle.scene.specs.Layout.{payload_bytes}
use Rattle.scene.specs.Blocks.{draw_of, same_to}
use Rattle.scene.proofs.blocks.same_draw.Given as goal

abbrev pub invariant-loop-j : goal.invariant-loop-j
invariant-loop-j l =
    l.same ≡ same_to (draw_of l.s l.i) (draw_of l.t l.i) (payload_bytes * l.j)
