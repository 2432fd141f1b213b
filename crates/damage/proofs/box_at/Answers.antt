use Prim.Native.Nat.{ℕ}
use Rattle.scene.specs.Header.{edition_of}
use Rattle.scene.specs.Accepted.{AcceptedDraw}
use native.Mathlib.Omega.{arith}
use mathlib.Core.Path.{refl, sym, subst}
use Rattle.damage.proofs.Boxes.{box_answer}
use Rattle.damage.proofs.Changes.{box_past}
use Rattle.damage.proofs.box_at.Goals as goal

pub returns-then-n-i : goal.returns-then-n-i
returns-then-n-i c =
    let a = c.args in
    record {
      value = (sym (box_past a.width a.height a.s.now a.i (omega (arith, c.count-n.ensures.0, c.if-n-i.true))), (omega arith, omega arith));
      scratch_unchanged = refl;
    }

pub draw_bounds-requires : goal.draw_bounds-requires
draw_bounds-requires c =
    let a = c.args in
    let e = c.requires.accepted_scene.draws a.i (omega (arith, c.count-n.ensures.0, c.if-n-i.false)) in
    record {
      d_len = (
        c.read_draw.auto.out,
        subst (λ (z : ℕ). AcceptedDraw z c.read_draw.new.out) (sym c.edition.ensures)
            (subst (AcceptedDraw (edition_of a.s.now)) (sym c.read_draw.ensures) e),
      );
      blank = c.requires.blank;
      width_bound = c.requires.width_bound;
    }

pub returns : goal.returns
returns c =
    let a = c.args in
    let b = c.draw_bounds in
    record {
      value = box_answer a.width a.height a.s.now _ _ a.i b.result (omega (arith, c.count-n.ensures.0, c.if-n-i.false))
          c.edition.ensures c.read_draw.ensures b.ensures.value;
      scratch_unchanged = b.ensures.scratch_unchanged;
    }
