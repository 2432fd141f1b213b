use Rattle.damage.specs.Damage.{boxes_at}
use Rattle.rect.specs.Rects.{On, smallest}
use Rattle.lists.specs.Lists.{upto}
use mathlib.Core.Path.{◌≡◌}
use Rattle.damage.proofs.changed_boxes.Given as goal

abbrev pub invariant-loop-i : goal.invariant-loop-i
invariant-loop-i l =
    (l.scratch ≡ l.initial.scratch) × (l.a ≡ smallest (upto l.i (boxes_at l.width l.height l.old l.new))) × On l.width l.height l.a
