use mathlib.Core.Path.{◌≡◌}
use Prim.Native.Nat.{◌*◌, ◌≤◌}
use Rattle.lists.specs.Lists.{upto, tab}
use Rattle.damage.specs.Damage.{boxes_at}
use Rattle.planner.specs.Runs.{rect_at}
use Rattle.planner.proofs.boxes.collect_changes.Given as goal

abbrev pub invariant-loop-i : goal.invariant-loop-i
invariant-loop-i l = (l.m ≤ 2 * l.i) × (tab l.m (rect_at l.boxes) ≡ upto l.i (boxes_at l.width l.height l.old l.new))
