use Rattle.damage.proofs.Boxes.{area_turn}
use Rattle.damage.specs.Damage.{boxes_at}
use Rattle.rect.specs.Rects.{smallest}
use Rattle.lists.specs.Lists.{upto}
use native.Mathlib.Omega.{arith}
use Prim.Native.Nat.{ℕ}
use Rattle.engine.specs.Rows.{Blank}
use mathlib.Core.Path.{◌≡◌, refl, sym, ap, subst, ◌∙◌}
use Rattle.damage.proofs.changed_boxes.Goals as goal

pub loop-i-init : goal.loop-i-init
loop-i-init c =
    (refl, refl, record { across = omega arith; wide = omega arith; up = omega arith; high = omega arith })

pub grow-a-requires : goal.grow-a-requires
grow-a-requires c =
    let p = c.requires in
    let l = c.loop-i in
    record { accepted_scene = p.accepted_scene; blank = subst Blank (sym l.invariant.0) p.blank; on = (l.invariant.2, p.width_bound) }

pub loop-i-preserved : goal.loop-i-preserved
loop-i-preserved c =
    let a = c.args in
    let l = c.loop-i in
    let g = c.grow-a in (
      g.ensures.scratch_unchanged ∙ l.invariant.0,
      area_turn a.width a.height a.old.now a.new.now l.i l.a g.result l.invariant.1 g.ensures.value.0,
      g.ensures.value.1,
    )

pub returns : goal.returns
returns c =
    let a = c.args in
    let l = c.loop-i in
    let e = c.most_draws-n in
    let k : l.i ≡ e.result = omega arith in
    record {
      value = (l.invariant.1 ∙ ap (λ (k : ℕ). smallest (upto k (boxes_at a.width a.height a.old.now a.new.now))) (k ∙ e.ensures), l.invariant.2);
      scratch_unchanged = l.invariant.0;
    }
