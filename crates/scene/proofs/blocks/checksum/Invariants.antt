use mathlib.Core.Path.{◌≡◌}
use Prim.Native.Nat.{suc, ◌+◌, ◌*◌, ◌≤◌}
use Rattle.lists.specs.Lists.{total}
use Rattle.scene.proofs.Sums.{alls, lates}
use Rattle.scene.proofs.blocks.checksum.Given as goal

abbrev pub invariant-loop-l : goal.invariant-loop-l
invariant-loop-l l =
    (l.plain ≤ l.start + l.l * 458745) × (l.weighted ≤ l.start + l.l * 16514820) × (l.late ≤ l.l * 1376235)
    × (l.plain ≡ l.start + total l.l (alls l.s l.at)) × (l.weighted ≡ l.start + total l.l (λ k. suc k * alls l.s l.at k))
    × (l.late ≡ 0 + total l.l (lates l.s l.at))
