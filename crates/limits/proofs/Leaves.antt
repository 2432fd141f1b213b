-- What a call and its report leave, from what each step leaves.
use mathlib.Core.Path.{◌≡◌, refl, sym, ap, ap₂, ◌∙◌}
use mathlib.Core.Bool.{true, false}
use mathlib.Core.List.{List}
use Prim.Native.Nat.{ℕ}
use lib.IntN.{ℤ}
use lib.ListN.{length}
use Rattle.std.proofs.Common.{Option, Some, None}
use borrow.Author.Tests.{eq-eqb, ne_eqb}
use Rattle.render.specs.declared.Answer.{Answer}
use Rattle.render.specs.Answers.{no_mask, draw_answer, redraw_answer, draw_surface, redraw_surface, draw_scratch, redraw_scratch}
use Rattle.limits.specs.Calls.{bytes, numbers, call_answer, call_surface, call_other, call_scratch, is_accepted, surface_left, other_left, scratch_left}

-- answer, surface, other surface and scratch after a call
abbrev Called : Option (List ℕ) → List ℕ → List ℕ → List ℕ → ℕ → Answer → List ℕ → List ℕ → List ℤ → Type 0
Called old new s o r a s' o' t' =
    (a ≡ call_answer old new (length s) r)
    × ((s' ≡ call_surface old new s r) × ((o' ≡ call_other old o r) × (t' ≡ call_scratch old new (length s) r)))

-- the report of an accepted call: the scene on the other surface
pub report_leaves : (new o o₁ o' : List ℕ) (t f t' : List ℤ) → o₁ ≡ bytes 85 (length o) → length o₁ ≡ length o
    → f ≡ numbers (length t) → length f ≡ length t → (o' ≡ draw_surface new no_mask o₁ (length f)) × (t' ≡ draw_scratch new no_mask (length o₁) f)
    → (o' ≡ draw_surface new no_mask (bytes 85 (length o)) (length t)) × (t' ≡ draw_scratch new no_mask (length o) (numbers (length t)))
report_leaves new o o₁ o' t f t' e n g l d = (d.0 ∙ ap₂ (draw_surface new no_mask) e l, d.1 ∙ ap₂ (draw_scratch new no_mask) n g)

-- both: on surfaces of w bytes that hold a pattern
module _ (old : Option (List ℕ)) (new : List ℕ) (w r : ℕ) (s o : List ℕ) (a : Answer) (s' o' : List ℕ) (t' : List ℤ)
    (at_first : s ≡ bytes 0 w) (other-first : o ≡ bytes 0 w) (length-first : length s ≡ w) (called : Called old new s o r a s' o' t') where
  answered : a ≡ call_answer old new w r
  answered = called.0 ∙ ap (λ (k : ℕ). call_answer old new k r) length-first

  surface_left_lem : s' ≡ surface_left old new w r
  unfolding surface_left
  surface_left_lem = called.1.0 ∙ ap (λ (z : List ℕ). call_surface old new z r) at_first

  pub accepted_leaves : (k j : ℕ) (o'' : List ℕ) (t'' : List ℤ) → a.code ≡ 0 → k ≡ w → j ≡ r
      → (o'' ≡ draw_surface new no_mask (bytes 85 k) j) × (t'' ≡ draw_scratch new no_mask k (numbers j))
      → (s' ≡ surface_left old new w r) × ((o'' ≡ other_left old new w r) × (t'' ≡ scratch_left old new w r))
  unfolding other_left scratch_left
  accepted_leaves k j o'' t'' z e f d =
      let q : is_accepted old new w r ≡ true = eq-eqb _ 0 (sym (ap (λ (b : Answer). b.code) answered) ∙ z) in (
        surface_left_lem,
        (
          rw q (d.0 ∙ ap₂ (λ (x y : ℕ). draw_surface new no_mask (bytes 85 x) y) e f),
          rw q (d.1 ∙ ap₂ (λ (x y : ℕ). draw_scratch new no_mask x (numbers y)) e f),
        ),
      )

  pub refused_leaves : (a.code ≡ 0 → ⊥) → (s' ≡ surface_left old new w r) × ((o' ≡ other_left old new w r) × (t' ≡ scratch_left old new w r))
  unfolding other_left scratch_left
  refused_leaves n =
      let q : is_accepted old new w r ≡ false = ne_eqb _ 0 (λ e. n (ap (λ (b : Answer). b.code) answered ∙ e)) in (
        surface_left_lem,
        (
          rw q (called.1.1.0 ∙ ap (λ (z : List ℕ). call_other old z r) other-first),
          rw q (called.1.1.1 ∙ ap (λ (k : ℕ). call_scratch old new k r) length-first),
        ),
      )
