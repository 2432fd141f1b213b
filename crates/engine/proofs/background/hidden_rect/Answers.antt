-- `background::hidden_rect` meets its contract: what the first draw hides all draws hide.
use mathlib.Core.Path.{refl, sym, ap, subst, ◌∙◌}
use Prim.Native.Nat.{ℕ, ◌<◌}
use native.Mathlib.Omega.{arith}
use Rattle.rect.specs.Rects.{empty_of}
use Rattle.scene.specs.Header.{count_of, edition_of}
use Rattle.scene.specs.Accepted.{AcceptedDraw}
use Rattle.engine.specs.Picture.{first_draws}
use Rattle.engine.specs.Unclamped.{unclamped_all}
use Rattle.engine.proofs.Hiding.{empty_hides, draws_hide}
use Rattle.engine.proofs.background.hidden_rect.Goals as goal

pub returns-then-count-eq0 : goal.returns-then-count-eq0
returns-then-count-eq0 c =
    let a = c.args in
    let draws = unclamped_all (edition_of a.scene.now) (first_draws a.scene.now a.count) in
    record { scratch_unchanged = refl; hides = empty_hides _ draws refl }

pub hidden_by-requires : goal.hidden_by-requires
hidden_by-requires c =
    let a = c.args in
    let p = c.requires in
    let r = c.read_draw in
    let some : 0 < count_of a.scene.now = omega (arith, c.requires.accepted_scene.1.0, c.if-count-eq0.false) in
    record {
      d_len = (
        r.auto.out ∙ c.requires.accepted_scene.1.1,
        subst (λ (z : ℕ). AcceptedDraw z r.new.out) (sym c.edition-edition.ensures)
            (subst (AcceptedDraw (edition_of a.scene.now)) (sym r.ensures) (c.requires.accepted_scene.0.draws 0 some)),
      );
      blank = c.requires.blank;
      width_bound = c.requires.width_bound;
    }

pub returns : goal.returns
returns c =
    let call = c.hidden_by in
    let a = c.args in
    let r = c.read_draw in
    record {
      scratch_unchanged = call.ensures.scratch_unchanged;
      hides = draws_hide a.scene.now r.new.out c.edition-edition.result a.count call.result (omega (arith, c.if-count-eq0.false))
          c.edition-edition.ensures r.ensures call.ensures.hides;
    }
