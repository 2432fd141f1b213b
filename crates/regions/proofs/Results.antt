-- What a redraw by proposed rectangles leaves, where it is refused and where it is accepted.
use mathlib.Core.Path.{◌≡◌, refl, sym, ap, ◌∙◌}
use mathlib.Core.List.{List}
use mathlib.Core.Bool.{Bool, true, false}
use Prim.Native.Nat.{ℕ, ◌≤◌}
use lib.ListN.{length, replicate}
use lib.IntN.{ℤ, pos}
use Rattle.codes.specs.Codes.{illegal_argument}
use Rattle.codes.proofs.Refusals.{refuses}
use Rattle.rect.specs.declared.Rect.{Rect}
use Rattle.rect.proofs.Laws.{either}
use Rattle.scene.specs.Layout.{no_draw}
use Rattle.scene.specs.Header.{width_of, height_of}
use Rattle.engine.specs.Picture.{pixel_at, mask_at}
use Rattle.render.specs.declared.Refusal.{Refusal}
use Rattle.render.specs.declared.Answer.{Answer}
use Rattle.render.specs.Answers.{Mask, mask_bytes, nothing, refuse, redraw_refusal, accepted_answer, refused_answer, redraw_answer}
use Rattle.render.proofs.Refusals.{ReadyBoth, redraw_ready, first_refused, first_passed, else_fine}
use Rattle.render.proofs.Results.{chosen, not_chosen}
use Rattle.regions.specs.Pixels.{overlays}
use Rattle.regions.specs.Proposals.{proposed, round_of, acceptable, to_cover}
use Rattle.regions.specs.Runs.{AllOn}
use Rattle.regions.proofs.Accepted.{accepted_has}
use Rattle.regions.proofs.Lying.{all_lying_on}
use Rattle.regions.specs.Answers.{changes, proposal_refusal, regions_refusal, regions_painted, regions_answer, regions_surface, regions_scratch}

-- ---- the proposal
module _ (old new : List ℕ) (l : List ℤ) where
  pub proposal_passes : acceptable (width_of new) (height_of new) (changes old new) l ≡ true → proposal_refusal old new l ≡ nothing
  unfolding proposal_refusal
  proposal_passes e = rw e

  pub proposal_rejects : acceptable (width_of new) (height_of new) (changes old new) l ≡ false → proposal_refusal old new l ≡ refuse illegal_argument no_draw 0
  unfolding proposal_refusal
  proposal_rejects e = rw e

  pub proposal_fine : (proposal_refusal old new l).code ≡ 0 → acceptable (width_of new) (height_of new) (changes old new) l ≡ true
  proposal_fine e =
      either (acceptable (width_of new) (height_of new) (changes old new) l) (λ t. t)
      (λ t. absurd (refuses illegal_argument refl (sym (ap (λ (f : Refusal). f.code) (proposal_rejects t)) ∙ e)))

  -- said of the sizes that were read
  pub judged : (w h : ℕ) (r t : Bool) → w ≡ width_of new → h ≡ height_of new → r ≡ acceptable w h (to_cover w h old new) l → r ≡ t
      → acceptable (width_of new) (height_of new) (changes old new) l ≡ t
  judged w h r t e f o s = rw (← e, ← f) (sym o ∙ s)

  -- its rectangles lie on the surface, and on a larger one
  pub accepted_on : acceptable (width_of new) (height_of new) (changes old new) l ≡ true → (w h : ℕ) → width_of new ≤ w → height_of new ≤ h → AllOn w h l
  accepted_on e w h a b =
      all_lying_on (width_of new) (height_of new) w h l a b (accepted_has (width_of new) (height_of new) (changes old new) l e).lying

-- ---- the call
module _ (old new : List ℕ) (m : Mask) (l : List ℤ) (surface scratch : ℕ) where
  abbrev before : Refusal
  before = redraw_refusal old new m surface scratch

  -- by what a redraw says
  pub by_redraw : (f : Refusal) → f ≡ before → (f.code ≡ 0 → ⊥) → f ≡ regions_refusal old new m l surface scratch
  unfolding regions_refusal
  by_redraw f e n = first_refused f before (proposal_refusal old new l) e n

  -- by the proposal
  pub by_proposal : (f r : Refusal) → f ≡ before → f.code ≡ 0 → r ≡ proposal_refusal old new l → r ≡ regions_refusal old new m l surface scratch
  unfolding regions_refusal
  by_proposal f r e z o = first_passed f before r (proposal_refusal old new l) e z o

  -- what an accepted call has
  pub regions_ready : (regions_refusal old new m l surface scratch).code ≡ 0
      → ReadyBoth old new m surface scratch × (acceptable (width_of new) (height_of new) (changes old new) l ≡ true)
  unfolding regions_refusal
  regions_ready e =
      let p = else_fine before (proposal_refusal old new l) e in
      (redraw_ready old new m surface scratch p.0, proposal_fine old new l p.1)

  pub regions_pass : before.code ≡ 0 → proposal_refusal old new l ≡ nothing → (regions_refusal old new m l surface scratch).code ≡ 0
  regions_pass z e = ap (λ (f : Refusal). f.code) (sym (by_proposal before (proposal_refusal old new l) refl z refl) ∙ e)

  pub regions_reject : before.code ≡ 0 → proposal_refusal old new l ≡ refuse illegal_argument no_draw 0
      → regions_answer old new m l surface scratch ≡ refused_answer (refuse illegal_argument no_draw 0)
  regions_reject z e =
      let f = regions_refusal old new m l surface scratch in
      let is : f ≡ refuse illegal_argument no_draw 0 = sym (by_proposal before (proposal_refusal old new l) refl z refl) ∙ e in
      not_chosen f _ _ (λ o. refuses illegal_argument refl (sym (ap (λ (g : Refusal). g.code) is) ∙ o)) ∙ ap refused_answer is

  pub regions_refuse : (before.code ≡ 0 → ⊥) → regions_answer old new m l surface scratch ≡ redraw_answer old new m surface scratch
  regions_refuse n =
      let f = regions_refusal old new m l surface scratch in
      let is : before ≡ f = by_redraw before refl n in
      not_chosen f _ _ (λ o. n (ap (λ (g : Refusal). g.code) is ∙ o)) ∙ ap refused_answer (sym is) ∙ sym (not_chosen before _ _ n)

module _ (old new : List ℕ) (m : Mask) (l : List ℤ) (p : List ℕ) (s : List ℤ) where
  pub regions_refused : (f : Refusal) (r : Answer) → f ≡ regions_refusal old new m l (length p) (length s) → (f.code ≡ 0 → ⊥) → r ≡ refused_answer f
      → (r ≡ regions_answer old new m l (length p) (length s))
      × ((p ≡ regions_surface old new m l p (length s)) × (s ≡ regions_scratch old new m l (length p) s))
  regions_refused f r e n g = rw (← e) (g ∙ sym (not_chosen f _ _ n), (sym (not_chosen f _ _ n), sym (not_chosen f _ _ n)))

  pub regions_done : (f : Refusal) (r : Answer) (q mask : List ℕ) (z : List ℤ) (w h : ℕ) (a : Rect) → f ≡ regions_refusal old new m l (length p) (length s)
      → f.code ≡ 0 → w ≡ width_of new → h ≡ height_of new → a ≡ round_of l → r ≡ accepted_answer a → mask ≡ mask_bytes m
      → q ≡ overlays w h (proposed l) (pixel_at new (mask_at w mask)) p → z ≡ replicate (length s) (pos 0)
      → (r ≡ regions_answer old new m l (length p) (length s))
      × ((q ≡ regions_surface old new m l p (length s)) × (z ≡ regions_scratch old new m l (length p) s))
  unfolding regions_painted
  regions_done f r q mask z w h a e c i j b g t o k =
      rw (← e, ← i, ← j, ← b, ← t) (g ∙ sym (chosen f _ _ c), (o ∙ sym (chosen f _ _ c), k ∙ sym (chosen f _ _ c)))
