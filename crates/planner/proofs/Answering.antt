-- What a plan by itself answers, and what it leaves.
use mathlib.Core.Path.{◌≡◌, refl, sym, ap, subst, ◌∙◌}
use mathlib.Core.List.{List}
use mathlib.Core.Bool.{cond}
use Prim.Native.Nat.{ℕ, ◌≤◌, ◌<◌}
use lib.Dec.{leb}
use lib.ListN.{length}
use lib.IntN.{ℤ}
use borrow.Author.Tests.{leb-true, le-leb, lt-leb}
use Rattle.codes.specs.Codes.{out_of_memory}
use Rattle.codes.proofs.Refusals.{refuses}
use Rattle.rect.proofs.Laws.{either}
use Rattle.scene.specs.Layout.{no_draw}
use Rattle.render.specs.declared.Refusal.{Refusal}
use Rattle.render.specs.Answers.{Mask, scratch_numbers, nothing, refuse, redraw_refusal}
use Rattle.render.proofs.Refusals.{ReadyBoth, redraw_ready, first_refused, first_passed, else_fine}
use Rattle.planner.specs.declared.planning.Planning.{Planning}
use Rattle.planner.specs.Written.{Written}
use Rattle.planner.specs.Plannings.{surface_for, plan_refusal, plan_answer, Answered}

-- ---- the refusal
module _ (old new : List ℕ) (m : Mask) (places : ℕ) where
  abbrev before : Refusal
  before = redraw_refusal old new m (surface_for new) scratch_numbers

  pub plan_first : (f : Refusal) → f ≡ before → (f.code ≡ 0 → ⊥) → f ≡ plan_refusal old new m places
  unfolding plan_refusal
  plan_first f e n = first_refused f before _ e n

  pub plan_short : (f r : Refusal) → f ≡ before → f.code ≡ 0 → places < 16 → r ≡ refuse out_of_memory no_draw 0 → r ≡ plan_refusal old new m places
  unfolding plan_refusal
  plan_short f r e z l o =
      first_passed f before r (cond (leb 16 places) nothing (refuse out_of_memory no_draw 0)) e z (o ∙ rw (lt-leb 16 places l))

  pub plan_passes : (f r : Refusal) → f ≡ before → f.code ≡ 0 → 16 ≤ places → r ≡ nothing → r ≡ plan_refusal old new m places
  unfolding plan_refusal
  plan_passes f r e z l o =
      first_passed f before r (cond (leb 16 places) nothing (refuse out_of_memory no_draw 0)) e z (o ∙ rw (le-leb 16 places l))

  pub plan_ready : (plan_refusal old new m places).code ≡ 0 → ReadyBoth old new m (surface_for new) scratch_numbers × (16 ≤ places)
  unfolding plan_refusal
  plan_ready e =
      let p = else_fine before (cond (leb 16 places) nothing (refuse out_of_memory no_draw 0)) e in (
        redraw_ready old new m (surface_for new) scratch_numbers p.0,
        either (leb 16 places) (λ t. leb-true 16 places t) (λ t. absurd (refuses out_of_memory refl (rw t at p.1))),
      )

-- ---- the call
module _ (old new : List ℕ) (m : Mask) (s : List ℤ) where
  pub plan_refused : (f : Refusal) (r : Planning) → f ≡ plan_refusal old new m (length s) → (f.code ≡ 0 → ⊥) → r ≡ plan_answer f 0 → Answered old new m s s r
  plan_refused f r e n g =
      record {
        answered = rw g (ap (λ (q : Refusal). plan_answer q 0) e);
        refused = λ z. (ap (λ (p : Planning). p.count) g, refl);
        accepted = λ z. absurd (n (sym (ap (λ (p : Planning). p.code) g) ∙ z));
      }

  pub plan_done : (f : Refusal) (r : Planning) (n : ℕ) (t : List ℤ) → f ≡ plan_refusal old new m (length s) → f.code ≡ 0 → Written old new n s t
      → r ≡ plan_answer f n → Answered old new m s t r
  plan_done f r n t e z w g =
      record {
        answered = rw g (ap (λ (q : Refusal). plan_answer q n) e);
        refused = λ q. absurd (q (ap (λ (p : Planning). p.code) g ∙ z));
        accepted = λ q. subst (λ (k : ℕ). Written old new k s t) (sym (ap (λ (p : Planning). p.count) g)) w;
      }
