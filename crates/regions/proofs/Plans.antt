-- P11: a redraw by a planner's proposal: what a redraw refuses it refuses too, and nothing else; demand 3 with the union in place of the area; nothing is
-- written for an empty area.
use mathlib.Core.Path.{◌≡◌, refl, sym, ap, ◌∙◌}
use mathlib.Core.List.Memᴰ
use mathlib.Core.List.{List, [], ◌∷◌, Memᴰ}
use mathlib.Core.Logic.{⊎_elim}
use mathlib.Core.Bool.{true, false, false≢true}
use Prim.Native.Nat.{ℕ, ◌<◌}
use native.Mathlib.Omega.{arith}
use lib.IntN.{ℤ, pos}
use lib.ListN.{length, replicate}
use Rattle.rect.specs.declared.Rect.{Rect}
use Rattle.rect.specs.Rects.{Inside, Holds, inside, none, empty_of, whole, smallest}
use Rattle.rect.proofs.Laws.{either, inside_true, empty_out, smallest_holds}
use Rattle.raster.specs.Surface.{pixel_of}
use Rattle.scene.specs.Header.{width_of, height_of}
use Rattle.engine.specs.Picture.{pixel_at, mask_at, picture}
use Rattle.damage.specs.Damage.{changed_boxes, same_background, damage}
use Rattle.damage.proofs.Changes.{damage_boxes, damage_whole}
use Rattle.render.specs.declared.Answer.{Answer}
use Rattle.render.specs.Answers.{Mask, mask_bytes, Accepted, OneSize, Lent, redraw_refusal, accepted_answer}
use Rattle.render.proofs.Results.{chosen, not_chosen, answer_refused, answer_accepted}
use Rattle.render.proofs.Demands.{redraw_accepted}
use Rattle.regions.specs.Pixels.{in_any}
use Rattle.regions.specs.Proposals.{proposed, round_of, to_cover}
use Rattle.regions.specs.Answers.{regions_painted, planned_answer, planned_surface, planned_scratch}
use Rattle.regions.specs.Planned.{Planned}
use Rattle.regions.proofs.Every.{or_cases}
use Rattle.regions.proofs.Accepted.{accepted_has}
use Rattle.regions.proofs.Overlays.{overlays_none}
use Rattle.regions.proofs.Painted.{Covering, painted_in, painted_out, painted_right}

-- what is to be covered lies in the area
any_held : (bs : List Rect) (a : Rect) (x y : ℕ) → ((b : Rect) → Memᴰ b bs → Holds a b) → in_any bs x y ≡ true → Inside a x y
any_held [] a x y h i = absurd (false≢true i)
any_held (b ∷ bs) a x y h i =
    or_cases (inside b x y) (in_any bs x y) (λ e. h b (Memᴰ.head refl) x y (inside_true b x y e))
    (any_held bs a x y (λ c m. h c (Memᴰ.tail m))) i

in_area : (old new : List ℕ) (x y : ℕ) → in_any (to_cover (width_of new) (height_of new) old new) x y ≡ true → Inside (damage old new) x y
unfolding to_cover
in_area old new x y i =
    let w = width_of new in
    let h = height_of new in
    either (same_background old new)
    (λ e.
    rw (damage_boxes w h old new e)
    (any_held (changed_boxes w h old new) (smallest (changed_boxes w h old new)) x y (smallest_holds (changed_boxes w h old new)) (rw e at i)))
    (λ e. rw (damage_whole w h old new e) (any_held (whole w h ∷ []) (whole w h) x y (λ b m. only b (whole w h) m) (rw e at i)))
  where
    only : (b a : Rect) → Memᴰ b (a ∷ []) → Holds a b
    only b a m x y i = ⊎_elim (λ e. rw (← e) i) (λ n. absurd (Memᴰ.not-nil n)) (Memᴰ.cases_cons m)

-- a planner's proposal covers what is to be covered, an empty one too
planned_covers : (old new : List ℕ) (l : List ℤ) → Planned old new l → Covering (width_of new) (height_of new) old new (proposed l)
planned_covers old new l p x y i =
    either (empty_of (damage old new)) (λ e. absurd (empty_out (damage old new) x y e (in_area old new x y i)))
    (λ e. (accepted_has (width_of new) (height_of new) (to_cover (width_of new) (height_of new) old new) l (p.accepted e)).covering x y i)

module _ (old new : List ℕ) (m : Mask) (l : List ℤ) (surface : List ℕ) (scratch : List ℤ) where
  pub refused_plan_changes_nothing : ((planned_answer old new m l (length surface) (length scratch)).code ≡ 0 → ⊥)
      → (planned_surface old new m l surface (length scratch) ≡ surface) × (planned_scratch old new m (length surface) scratch ≡ scratch)
  refused_plan_changes_nothing n =
      let f = redraw_refusal old new m (length surface) (length scratch) in
      let r = answer_refused f _ n in
      (not_chosen f _ _ r, not_chosen f _ _ r)

  pub accepted_plan_clears_scratch : (planned_answer old new m l (length surface) (length scratch)).code ≡ 0
      → planned_scratch old new m (length surface) scratch ≡ replicate (length scratch) (pos 0)
  accepted_plan_clears_scratch e =
      let f = redraw_refusal old new m (length surface) (length scratch) in
      chosen f _ _ (answer_accepted f _ e)

module _ (old new : List ℕ) (m : Mask) (l : List ℤ) (surface : List ℕ) (scratch : ℕ) where
  module _ (o : Accepted m old) (n : Accepted m new) (size : OneSize old new) (lent : Lent new m surface scratch) where
    passes : (redraw_refusal old new m (length surface) scratch).code ≡ 0
    passes =
        answer_accepted (redraw_refusal old new m (length surface) scratch) (damage old new)
        (ap (λ (a : Answer). a.code) (redraw_accepted old new m surface scratch o n size lent))

    pub plan_accepted : planned_answer old new m l (length surface) scratch ≡ accepted_answer (round_of l)
    plan_accepted = chosen (redraw_refusal old new m (length surface) scratch) _ _ passes

    leaves : planned_surface old new m l surface scratch ≡ regions_painted new m l surface
    leaves = chosen (redraw_refusal old new m (length surface) scratch) _ _ passes

    pub inside_plan_is_new : (x y : ℕ) → x < width_of new → y < height_of new → in_any (proposed l) x y ≡ true
        → pixel_of (width_of new) (planned_surface old new m l surface scratch) x y ≡ pixel_of (width_of new) (picture new (mask_bytes m)) x y
    inside_plan_is_new x y k h i = ap (λ (s : List ℕ). pixel_of (width_of new) s x y) leaves ∙ painted_in new m l surface x y k h i

    pub outside_plan_is_kept : (x y : ℕ) → x < width_of new → y < height_of new → in_any (proposed l) x y ≡ false
        → pixel_of (width_of new) (planned_surface old new m l surface scratch) x y ≡ pixel_of (width_of new) surface x y
    outside_plan_is_kept x y k h i = ap (λ (s : List ℕ). pixel_of (width_of new) s x y) leaves ∙ painted_out new m l surface x y k h i

    pub plan_makes_picture : Planned old new l → surface ≡ picture old (mask_bytes m) → planned_surface old new m l surface scratch ≡ picture new (mask_bytes m)
    plan_makes_picture p e = leaves ∙ painted_right new m l surface old o n size (planned_covers old new l p) e

    -- nothing is proposed for an empty area: the answer names 0, 0, 0, 0, and no byte of the surface is written
    module _ (p : Planned old new l) (empty : empty_of (damage old new) ≡ true) where
      pub empty_plan_answers_none : planned_answer old new m l (length surface) scratch ≡ accepted_answer none
      empty_plan_answers_none = plan_accepted ∙ ap (λ (q : List ℤ). accepted_answer (round_of q)) (p.nothing empty)

      pub empty_plan_writes_nothing : planned_surface old new m l surface scratch ≡ surface
      unfolding regions_painted
      empty_plan_writes_nothing =
          leaves ∙ ap (λ (q : List ℤ). regions_painted new m q surface) (p.nothing empty)
          ∙ sym (overlays_none (width_of new) (height_of new) (pixel_at new (mask_at (width_of new) (mask_bytes m))) surface (lent.size ∙ omega arith))
