use mathlib.Core.Path.{◌≡◌}
use Prim.Native.Nat.{◌*◌}
use lib.ListN.{length, take}
use Rattle.lists.specs.Lists.{upto}
use Rattle.rescue.specs.Salvaged.{draw_span, salvaged_draw}
use Rattle.rescue.proofs.write.write_draws.Given as goal

abbrev pub invariant-loop-i : goal.invariant-loop-i
invariant-loop-i l = (length l.out ≡ length l.initial.out) × (take (draw_span * l.i) l.out ≡ upto l.i (salvaged_draw l.s))
