use Rattle.damage.proofs.Boxes.{both_joined, none_joined}
use mathlib.Core.Path.{refl, sym, subst, ◌∙◌}
use Rattle.engine.specs.Rows.{Blank}
use Rattle.damage.proofs.grow.Goals as goal

pub box_at-before-requires : goal.box_at-before-requires
box_at-before-requires c =
    let p = c.requires in
    record { accepted_scene = p.accepted_scene.0; blank = p.blank; width_bound = p.on.1 }

pub box_at-after-requires : goal.box_at-after-requires
box_at-after-requires c =
    let p = c.requires in
    record { accepted_scene = p.accepted_scene.1; blank = subst Blank (sym c.box_at-before.ensures.scratch_unchanged) p.blank; width_bound = p.on.1 }

pub returns-then-is_changed : goal.returns-then-is_changed
returns-then-is_changed c =
    let a = c.args in
    let p = c.box_at-before in
    let q = c.box_at-after in
    record {
      value = both_joined a.width a.height a.old.now a.new.now a.i a.a p.result q.result c.join.result c.join-then-is_changed.result
          (sym c.is_changed.ensures ∙ c.if-is_changed.true) p.ensures.value.0 q.ensures.value.0 c.join.ensures
          c.join-then-is_changed.ensures c.requires.on.0 p.ensures.value.1 q.ensures.value.1;
      scratch_unchanged = q.ensures.scratch_unchanged ∙ p.ensures.scratch_unchanged;
    }

pub returns-else-is_changed : goal.returns-else-is_changed
returns-else-is_changed c =
    let a = c.args in
    record {
      value = (
        none_joined a.width a.height a.old.now a.new.now a.i a.a (sym c.is_changed.ensures ∙ c.if-is_changed.false),
        c.requires.on.0,
      );
      scratch_unchanged = refl;
    }
