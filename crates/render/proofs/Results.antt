-- What a call leaves, where it is refused and where it is accepted.
use mathlib.Core.Path.{◌≡◌, sym, ap, ◌∙◌}
use mathlib.Core.List.{List, []}
use mathlib.Core.Bool.{Bool, true, false, cond}
use Prim.Native.Nat.{ℕ, ◌-◌}
use native.Mathlib.Omega.{arith}
use lib.Dec.{eqb}
use lib.ListN.{length, replicate, take, drop}
use lib.Seq.{take-length}
use lib.IntN.{ℤ, pos}
use borrow.Author.Tests.{eq-eqb, eqb-true, ne_eqb}
use Rattle.rect.specs.declared.Rect.{Rect}
use Rattle.rect.specs.Rects.{whole}
use Rattle.rect.proofs.Laws.{either}
use Rattle.raster.specs.Surface.{overlay}
use Rattle.raster.proofs.Overlay.{overlay_whole}
use Rattle.scene.specs.Header.{width_of, height_of}
use Rattle.engine.specs.Picture.{pixel_at, mask_at, picture}
use Rattle.damage.specs.Damage.{damage_of}
use Rattle.render.specs.declared.Refusal.{Refusal}
use Rattle.render.specs.declared.Answer.{Answer}
use Rattle.render.specs.Answers.{Mask, mask_bytes, draw_refusal, redraw_refusal, choose, refused_answer, accepted_answer}
use Rattle.render.specs.Answers.{draw_answer, draw_surface, draw_scratch, redraw_answer, redraw_surface, redraw_scratch}

pub chosen : {A : Type 0} (f : Refusal) (a b : A) → f.code ≡ 0 → choose f a b ≡ a
unfolding choose
chosen f a b e = rw (eq-eqb f.code 0 e)

pub not_chosen : {A : Type 0} (f : Refusal) (a b : A) → (f.code ≡ 0 → ⊥) → choose f a b ≡ b
unfolding choose
not_chosen f a b e = rw (ne_eqb f.code 0 e)

-- the code of an answer is that of the refusal
pub answer_accepted : (f : Refusal) (a : Rect) → (choose f (accepted_answer a) (refused_answer f)).code ≡ 0 → f.code ≡ 0
unfolding choose
answer_accepted f a e = either (eqb f.code 0) (λ z. eqb-true _ _ z) (λ z. rw z at e)

pub answer_refused : (f : Refusal) (a : Rect) → ((choose f (accepted_answer a) (refused_answer f)).code ≡ 0 → ⊥) → f.code ≡ 0 → ⊥
answer_refused f a n e = n (ap (λ (r : Answer). r.code) (chosen f (accepted_answer a) (refused_answer f) e))

-- the bytes that are taken of the mask's run
pub taken_bytes : (m : Mask) (n : ℕ) → n ≡ cond m.lent (length m.bytes) 0 → take (n - 0) (drop 0 m.bytes) ≡ mask_bytes m
taken_bytes m n e = by m.lent e
  where
    by : (t : Bool) → n ≡ cond t (length m.bytes) 0 → take (n - 0) (drop 0 m.bytes) ≡ cond t m.bytes []
    by true h =
        let all : n - 0 ≡ length m.bytes = omega arith in
        rw all (take-length m.bytes)
    by false h =
        let none : n - 0 ≡ 0 = omega arith in
        rw none

module _ (s : List ℕ) (m : Mask) (p : List ℕ) (l : List ℤ) where
  pub draw_refused : (f : Refusal) (r : Answer) → f ≡ draw_refusal s m (length p) (length l) → (f.code ≡ 0 → ⊥) → r ≡ refused_answer f
      → (r ≡ draw_answer s m (length p) (length l)) × ((p ≡ draw_surface s m p (length l)) × (l ≡ draw_scratch s m (length p) l))
  draw_refused f r e n g = rw (← e) (g ∙ sym (not_chosen f _ _ n), (sym (not_chosen f _ _ n), sym (not_chosen f _ _ n)))

  pub draw_done : (f : Refusal) (r : Answer) (q mask : List ℕ) (n : List ℤ) (w h : ℕ) → f ≡ draw_refusal s m (length p) (length l) → f.code ≡ 0
      → w ≡ width_of s → h ≡ height_of s → r ≡ accepted_answer (whole w h) → mask ≡ mask_bytes m
      → q ≡ overlay w h (whole w h) (pixel_at s (mask_at w mask)) p → n ≡ replicate (length l) (pos 0)
      → (r ≡ draw_answer s m (length p) (length l)) × ((q ≡ draw_surface s m p (length l)) × (n ≡ draw_scratch s m (length p) l))
  unfolding picture
  draw_done f r q mask n w h e z i j g t o k =
      rw (← e, ← i, ← j, ← t)
      (g ∙ sym (chosen f _ _ z), (o ∙ overlay_whole w h (pixel_at s (mask_at w mask)) p ∙ sym (chosen f _ _ z), k ∙ sym (chosen f _ _ z)))

module _ (old new : List ℕ) (m : Mask) (p : List ℕ) (l : List ℤ) where
  pub redraw_refused : (f : Refusal) (r : Answer) → f ≡ redraw_refusal old new m (length p) (length l) → (f.code ≡ 0 → ⊥) → r ≡ refused_answer f
      → (r ≡ redraw_answer old new m (length p) (length l)) × ((p ≡ redraw_surface old new m p (length l)) × (l ≡ redraw_scratch old new m (length p) l))
  redraw_refused f r e n g = rw (← e) (g ∙ sym (not_chosen f _ _ n), (sym (not_chosen f _ _ n), sym (not_chosen f _ _ n)))

  pub redraw_done : (f : Refusal) (r : Answer) (q mask : List ℕ) (n : List ℤ) (w h : ℕ) (a : Rect) → f ≡ redraw_refusal old new m (length p) (length l)
      → f.code ≡ 0
      → w ≡ width_of new → h ≡ height_of new → a ≡ damage_of w h old new → r ≡ accepted_answer a → mask ≡ mask_bytes m
      → q ≡ overlay w h a (pixel_at new (mask_at w mask)) p
      → n ≡ replicate (length l) (pos 0)
      → (r ≡ redraw_answer old new m (length p) (length l)) × ((q ≡ redraw_surface old new m p (length l)) × (n ≡ redraw_scratch old new m (length p) l))
  redraw_done f r q mask n w h a e z i j b g t o k =
      rw (← e, ← i, ← j, ← b, ← t) (g ∙ sym (chosen f _ _ z), (o ∙ sym (chosen f _ _ z), k ∙ sym (chosen f _ _ z)))
