-- P11: demands 1 and 3 of a redraw by proposed rectangles, as theorems on the definitions that the contract of `redraw_regions` cites.
use mathlib.Core.Path.{◌≡◌, refl, sym, ap, subst, ◌∙◌}
use mathlib.Core.List.Memᴰ
use mathlib.Core.List.{List, [], ◌∷◌, Memᴰ}
use mathlib.Core.Logic.{⊎_elim}
use mathlib.Core.Bool.{true, false}
use Prim.Native.Nat.{ℕ, ◌*◌, ◌/◌, ◌≤◌, ◌<◌}
use native.Mathlib.Omega.{arith}
use lib.Dec.{eqb}
use borrow.Author.Tests.{eqb-true, eqb-false}
use lib.IntN.{ℤ, pos}
use lib.ListN.{length, replicate}
use Rattle.codes.specs.Codes.{in_table, illegal_argument}
use Rattle.rect.specs.declared.Rect.{Rect}
use Rattle.rect.specs.Rects.{Holds}
use Rattle.rect.proofs.Laws.{either, not_true_is, smallest_holds, smallest_least}
use Rattle.raster.specs.Surface.{pixel_of}
use Rattle.raster.proofs.Pixels.{raster_length}
use Rattle.scene.specs.Layout.{no_draw}
use Rattle.scene.specs.Header.{width_of, height_of}
use Rattle.engine.specs.Picture.{pixel_at, mask_at, picture}
use Rattle.damage.specs.Damage.{damage}
use Rattle.damage.proofs.Members.{upto_has, upto_cases}
use Rattle.render.specs.declared.Answer.{Answer}
use Rattle.render.specs.Answers.{Mask, mask_bytes, scratch_numbers, Accepted, OneSize, Lent}
use Rattle.render.specs.Answers.{refuse, redraw_refusal, accepted_answer, refused_answer, draw_surface}
use Rattle.render.proofs.Results.{chosen, not_chosen, answer_refused, answer_accepted}
use Rattle.render.proofs.Codes.{redraw_code_in_table}
use Rattle.render.proofs.Demands.{redraw_accepted, full_drawing_leaves_picture}
use Rattle.regions.specs.Pixels.{in_any}
use Rattle.regions.specs.Proposals.{proposed_at, proposed, round_of, acceptable, Acceptable}
use Rattle.regions.specs.Answers.{changes, regions_refusal, regions_painted, regions_answer, regions_surface, regions_scratch}
use Rattle.regions.proofs.Accepted.{accepted_has, has_accepted}
use Rattle.regions.proofs.Painted.{painted_length, painted_in, painted_out, painted_right}
use Rattle.regions.proofs.Results.{proposal_passes, proposal_rejects, regions_ready, regions_pass, regions_reject, regions_refuse}

-- ---- DEMAND 1: a refused call leaves surface and scratch as they were; an accepted one leaves the scratch all zero
module _ (old new : List ℕ) (m : Mask) (l : List ℤ) (surface : List ℕ) (scratch : List ℤ) where
  pub refused_regions_change_nothing : ((regions_answer old new m l (length surface) (length scratch)).code ≡ 0 → ⊥)
      → (regions_surface old new m l surface (length scratch) ≡ surface) × (regions_scratch old new m l (length surface) scratch ≡ scratch)
  refused_regions_change_nothing n =
      let f = regions_refusal old new m l (length surface) (length scratch) in
      let r = answer_refused f _ n in
      (not_chosen f _ _ r, not_chosen f _ _ r)

  pub accepted_regions_clear_scratch : (regions_answer old new m l (length surface) (length scratch)).code ≡ 0
      → regions_scratch old new m l (length surface) scratch ≡ replicate (length scratch) (pos 0)
  accepted_regions_clear_scratch e =
      let f = regions_refusal old new m l (length surface) (length scratch) in
      chosen f _ _ (answer_accepted f _ e)

-- ---- the least rectangle round the union: it holds each of the rectangles, and every other that does holds it
module _ (l : List ℤ) where
  pub round_holds : (k : ℕ) → k < length l / 4 → Holds (round_of l) (proposed_at l k)
  round_holds k h =
      smallest_holds (proposed l) (proposed_at l k) (upto_has (length l / 4) (λ i. proposed_at l i ∷ []) (proposed_at l k) k h (Memᴰ.head refl))

  pub round_is_least : (r : Rect) → ((k : ℕ) → k < length l / 4 → Holds r (proposed_at l k)) → Holds r (round_of l)
  round_is_least r h =
      smallest_least (proposed l) r
      (λ b e. upto_cases (length l / 4) (λ i. proposed_at l i ∷ []) b (λ i k q. subst (Holds r) (sym (only b (proposed_at l i) q)) (h i k)) e)
    where
      only : (a b : Rect) → Memᴰ a (b ∷ []) → a ≡ b
      only a b q = ⊎_elim (λ e. e) (λ n. absurd (Memᴰ.not-nil n)) (Memᴰ.cases_cons q)

-- ---- DEMAND 3 with the union in place of the area: accepted exactly if a redraw is and the proposal keeps to its rules
module _ (old new : List ℕ) (m : Mask) (l : List ℤ) (surface : List ℕ) (scratch : ℕ) where
  pub only_good_regions_accepted : (regions_answer old new m l (length surface) scratch).code ≡ 0
      → ((Accepted m old × Accepted m new) × (OneSize old new × Lent new m surface scratch))
      × Acceptable (width_of new) (height_of new) (changes old new) l
  only_good_regions_accepted e =
      let p = regions_ready old new m l (length surface) scratch (answer_accepted (regions_refusal old new m l (length surface) scratch) _ e) in
      let r = p.0 in
      let lent : Lent new m surface scratch = record { size = r.after.size; mask = r.after.mask; space = r.after.space } in (
        ((r.before, r.after.scene), (record { width = r.width; height = r.height }, lent)),
        accepted_has (width_of new) (height_of new) (changes old new) l p.1,
      )

  module _ (o : Accepted m old) (n : Accepted m new) (size : OneSize old new) (lent : Lent new m surface scratch) where
    redraw_passes : (redraw_refusal old new m (length surface) scratch).code ≡ 0
    redraw_passes =
        answer_accepted (redraw_refusal old new m (length surface) scratch) (damage old new)
        (ap (λ (a : Answer). a.code) (redraw_accepted old new m surface scratch o n size lent))

    -- any other proposal is refused 0x1001, draw 64, scene 0
    pub others_rejected : (Acceptable (width_of new) (height_of new) (changes old new) l → ⊥)
        → regions_answer old new m l (length surface) scratch ≡ refused_answer (refuse illegal_argument no_draw 0)
    others_rejected bad =
        regions_reject old new m l (length surface) scratch redraw_passes
        (proposal_rejects old new l (not_true_is _ (λ t. bad (accepted_has (width_of new) (height_of new) (changes old new) l t))))

    module _ (good : Acceptable (width_of new) (height_of new) (changes old new) l) where
      passes : (regions_refusal old new m l (length surface) scratch).code ≡ 0
      passes =
          regions_pass old new m l (length surface) scratch redraw_passes
          (proposal_passes old new l (has_accepted (width_of new) (height_of new) (changes old new) l good))

      -- it reports the least rectangle round the union
      pub regions_accepted : regions_answer old new m l (length surface) scratch ≡ accepted_answer (round_of l)
      regions_accepted = chosen (regions_refusal old new m l (length surface) scratch) _ _ passes

      leaves : regions_surface old new m l surface scratch ≡ regions_painted new m l surface
      leaves = chosen (regions_refusal old new m l (length surface) scratch) _ _ passes

      -- the surface keeps its length; in the union every pixel is the second scene's full drawing, outside it every pixel is as before
      pub regions_keep_length : length (regions_surface old new m l surface scratch) ≡ length surface
      regions_keep_length = ap length leaves ∙ painted_length new m l surface ∙ rw lent.size (omega arith)

      pub inside_regions_is_new : (x y : ℕ) → x < width_of new → y < height_of new → in_any (proposed l) x y ≡ true
          → pixel_of (width_of new) (regions_surface old new m l surface scratch) x y ≡ pixel_of (width_of new) (picture new (mask_bytes m)) x y
      inside_regions_is_new x y k h i = ap (λ (s : List ℕ). pixel_of (width_of new) s x y) leaves ∙ painted_in new m l surface x y k h i

      pub outside_regions_is_kept : (x y : ℕ) → x < width_of new → y < height_of new → in_any (proposed l) x y ≡ false
          → pixel_of (width_of new) (regions_surface old new m l surface scratch) x y ≡ pixel_of (width_of new) surface x y
      outside_regions_is_kept x y k h i = ap (λ (s : List ℕ). pixel_of (width_of new) s x y) leaves ∙ painted_out new m l surface x y k h i

      -- so a surface that held the first scene's full drawing holds the second's in every byte
      pub regions_make_picture : surface ≡ picture old (mask_bytes m) → regions_surface old new m l surface scratch ≡ picture new (mask_bytes m)
      regions_make_picture e = leaves ∙ painted_right new m l surface old o n size good.covering e

-- the same of the calls: redrawing in accepted rectangles after a full drawing of the old scene leaves what a full drawing of the new one leaves, on
-- whatever surfaces, with one mask for the three or none
pub regions_are_full : (old new : List ℕ) (m : Mask) (l : List ℤ) (first second : List ℕ) (scratch1 scratch2 scratch3 : ℕ) → Accepted m old → Accepted m new
    → OneSize old new → Acceptable (width_of new) (height_of new) (changes old new) l → Lent old m first scratch1 → scratch_numbers ≤ scratch2
    → Lent new m second scratch3
    → regions_surface old new m l (draw_surface old m first scratch1) scratch2 ≡ draw_surface new m second scratch3
unfolding picture
regions_are_full old new m l first second scratch1 scratch2 scratch3 o n size good lent space full =
    let drawn : draw_surface old m first scratch1 ≡ picture old (mask_bytes m) = full_drawing_leaves_picture old m first scratch1 o lent in
    let fits : length (draw_surface old m first scratch1) ≡ 4 * (width_of new * height_of new) =
    ap length drawn ∙ raster_length (width_of old) (height_of old) (pixel_at old (mask_at (width_of old) (mask_bytes m)))
    ∙ rw (size.width, size.height) (omega arith) in
    regions_make_picture old new m l (draw_surface old m first scratch1) scratch2 o n size (record { size = fits; mask = full.mask; space = space }) good drawn
    ∙ sym (full_drawing_leaves_picture new m second scratch3 n full)

-- DEMAND 1: every call answers with a code from the table, whatever it is given
pub regions_code_in_table : (old new : List ℕ) (m : Mask) (l : List ℤ) (surface_bytes scratch : ℕ)
    → in_table (regions_answer old new m l surface_bytes scratch).code ≡ true
regions_code_in_table old new m l surface_bytes scratch =
    let f = redraw_refusal old new m surface_bytes scratch in
    either (eqb f.code 0)
    (λ e.
    either (acceptable (width_of new) (height_of new) (changes old new) l)
    (λ t. ap (λ (a : Answer). in_table a.code)
    (chosen (regions_refusal old new m l surface_bytes scratch) _ _
    (regions_pass old new m l surface_bytes scratch (eqb-true _ _ e) (proposal_passes old new l t))))
    (λ t. ap (λ (a : Answer). in_table a.code) (regions_reject old new m l surface_bytes scratch (eqb-true _ _ e) (proposal_rejects old new l t))))
    (λ e. ap (λ (a : Answer). in_table a.code) (regions_refuse old new m l surface_bytes scratch (eqb-false _ _ e))
    ∙ redraw_code_in_table old new m surface_bytes scratch)
