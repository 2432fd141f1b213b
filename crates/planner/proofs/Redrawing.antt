-- What a redraw by the planner's rectangles leaves, where it is refused and where it is accepted.
use mathlib.Core.Path.{◌≡◌, sym, ap, ◌∙◌}
use mathlib.Core.List.{List, []}
use Prim.Native.Nat.{ℕ, ◌*◌, ◌-◌, ◌≤◌}
use native.Mathlib.Nat.{not-suc-le-zero}
use native.Mathlib.Omega.{arith}
use lib.ListN.{length, replicate, take, drop}
use lib.Seq.{take_at}
use lib.IntN.{ℤ, pos}
use Rattle.rect.specs.declared.Rect.{Rect}
use Rattle.rect.specs.Rects.{empty_of}
use Rattle.rect.proofs.Laws.{either}
use Rattle.scene.specs.Header.{width_of, height_of}
use Rattle.engine.specs.Picture.{pixel_at, mask_at}
use Rattle.damage.specs.Damage.{damage}
use Rattle.render.specs.declared.Refusal.{Refusal}
use Rattle.render.specs.declared.Answer.{Answer}
use Rattle.render.specs.Answers.{Mask, mask_bytes, redraw_refusal, accepted_answer, refused_answer}
use Rattle.render.proofs.Results.{chosen, not_chosen}
use Rattle.regions.specs.Pixels.{overlays}
use Rattle.regions.specs.Proposals.{proposed, round_of}
use Rattle.regions.specs.Runs.{AllOn}
use Rattle.regions.specs.Answers.{regions_painted}
use Rattle.regions.specs.Planned.{Planned}
use Rattle.regions.proofs.Results.{accepted_on}
use Rattle.planner.specs.Written.{Written, Redrawn}

-- the part of the run in which the plan stands
module _ (old new : List ℕ) (n k : ℕ) (s t : List ℤ) (w : Written old new n s t) (e : k ≡ n * 4) where
  pub plan_part : take (k - 0) (drop 0 t) ≡ w.plan
  plan_part =
      let z : k - 0 ≡ n * 4 = omega arith in
      rw (z, w.stored) (take_at w.plan (drop (length w.plan) s) (n * 4) w.long)

  -- its rectangles lie on the surface
  plan_on : (a b : ℕ) → width_of new ≤ a → height_of new ≤ b → AllOn a b w.plan
  plan_on a b p q =
      either (empty_of (damage old new))
      (λ g. rw (w.planned.nothing g) (λ i l. absurd (not-suc-le-zero l)))
      (λ g. accepted_on old new w.plan (w.planned.accepted g) a b p q)

  pub part_on : (a b : ℕ) → width_of new ≤ a → height_of new ≤ b → AllOn a b (take (k - 0) (drop 0 t))
  part_on a b p q = rw plan_part (plan_on a b p q)

module _ (old new : List ℕ) (m : Mask) (p : List ℕ) (s : List ℤ) where
  pub planned_refused : (f : Refusal) (r : Answer) → f ≡ redraw_refusal old new m (length p) (length s) → (f.code ≡ 0 → ⊥) → r ≡ refused_answer f
      → Redrawn old new m p s r p s
  planned_refused f r e n g =
      record {
        plan = [];
        planned = λ z. absurd (n (ap (λ (q : Refusal). q.code) e ∙ z));
        answered = rw (← e) (g ∙ sym (not_chosen f _ _ n));
        painted = rw (← e) (sym (not_chosen f _ _ n));
        cleared = rw (← e) (sym (not_chosen f _ _ n));
      }

  pub planned_done : (f : Refusal) (r : Answer) (q mask : List ℕ) (z l part : List ℤ) (w h : ℕ) (a : Rect) → Planned old new l → part ≡ l
      → f ≡ redraw_refusal old new m (length p) (length s) → f.code ≡ 0 → w ≡ width_of new → h ≡ height_of new → a ≡ round_of part → r ≡ accepted_answer a
      → mask ≡ mask_bytes m → q ≡ overlays w h (proposed part) (pixel_at new (mask_at w mask)) p → z ≡ replicate (length s) (pos 0)
      → Redrawn old new m p s r q z
  unfolding regions_painted
  planned_done f r q mask z l part w h a t y e c i j b g u o k =
      record {
        plan = l;
        planned = λ n. t;
        answered = rw (← e) (g ∙ ap accepted_answer (b ∙ ap round_of y) ∙ sym (chosen f _ _ c));
        painted = rw (← e, ← i, ← j, ← u, ← y) (o ∙ sym (chosen f _ _ c));
        cleared = rw (← e) (k ∙ sym (chosen f _ _ c));
      }
