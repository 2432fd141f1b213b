use Rattle.damage.proofs.Changes.{damage_boxes, damage_whole}
use native.Mathlib.Omega.{arith}
use mathlib.Core.Path.{refl, sym, ◌∙◌}
use Rattle.damage.proofs.damage.Goals as goal

pub changed_boxes-requires : goal.changed_boxes-requires
changed_boxes-requires c =
    let p = c.requires in
    record { accepted_scene = p.accepted_scene; blank = p.blank; width_bound = p.width_bound }

pub returns-then-same_background : goal.returns-then-same_background
returns-then-same_background c =
    let a = c.args in
    let r = c.changed_boxes in
    record {
      value = (
        r.ensures.value.0
            ∙ sym (damage_boxes a.width a.height a.old.now a.new.now
            (sym c.same_background.ensures ∙ c.if-same_background.true)),
        r.ensures.value.1,
      );
      scratch_unchanged = r.ensures.scratch_unchanged;
    }

pub returns : goal.returns
returns c =
    let a = c.args in
    record {
      value = (
        sym (damage_whole a.width a.height a.old.now a.new.now (sym c.same_background.ensures ∙ c.if-same_background.false)),
        record { across = omega arith; wide = omega arith; up = omega arith; high = omega arith },
      );
      scratch_unchanged = refl;
    }
