-- After a replay the surface is the picture of the scene accepted last and the scratch is zero; with none accepted both are as they were.
use mathlib.Core.Path.{◌≡◌, refl, ap, ◌∙◌}
use mathlib.Core.List.{List, [], ◌∷◌}
use mathlib.Core.Bool.{Bool, true, false, cond}
use Prim.Native.Nat.{ℕ}
use lib.Dec.{eqb}
use lib.IntN.{ℤ, pos}
use lib.ListN.{length, replicate, length-replicate}
use borrow.Author.Tests.{eqb-true, eqb-false, ne_eqb}
use Rattle.engine.specs.Picture.{picture}
use Rattle.render.specs.Answers.{Mask, mask_bytes, draw_answer, redraw_answer}
use Rattle.render.proofs.Demands.{refused_draw_changes_nothing, accepted_draw_clears_scratch, only_good_draws_accepted, full_drawing_leaves_picture}
use Rattle.render.proofs.Demands.{refused_redraw_changes_nothing, accepted_redraw_clears_scratch, only_good_redraws_accepted, redraw_makes_picture}
use Rattle.playback.specs.Replay.{first_scenes, Shown, nothing, scene, State, next_answer, next_surface, next_scratch, answer_in}
use Rattle.playback.specs.Replay.{next, replayed, started, state_at, end_of}

-- what surface and scratch hold, by what is shown
abbrev Shows : Mask → List ℕ → List ℤ → Shown → List ℕ → List ℤ → Type 0
Shows m p₀ l₀ nothing p l = (p ≡ p₀) × (l ≡ l₀)
Shows m p₀ l₀ (scene s) p l = (p ≡ picture s (mask_bytes m)) × (l ≡ replicate (length l₀) (pos 0))

module _ (m : Mask) (p₀ : List ℕ) (l₀ : List ℤ) where
  turn : (h : Shown) (t p : List ℕ) (l : List ℤ) → Shows m p₀ l₀ h p l
      → Shows m p₀ l₀ (cond (eqb (next_answer m h t (length p) (length l)).code 0) (scene t) h)
      (next_surface m h t p (length l)) (next_scratch m h t (length p) l)
  turn nothing t p l r = by (eqb (draw_answer t m (length p) (length l)).code 0) refl
    where
      by : (b : Bool) → eqb (draw_answer t m (length p) (length l)).code 0 ≡ b
          → Shows m p₀ l₀ (cond b (scene t) nothing) (next_surface m nothing t p (length l)) (next_scratch m nothing t (length p) l)
      by true e =
          let z = eqb-true _ _ e in
          let good = only_good_draws_accepted t m p (length l) z in (
            full_drawing_leaves_picture t m p (length l) good.0 good.1,
            accepted_draw_clears_scratch t m p l z ∙ ap (λ (w : List ℤ). replicate (length w) (pos 0)) r.1,
          )
      by false e =
          let kept = refused_draw_changes_nothing t m p l (eqb-false _ _ e) in
          (kept.0 ∙ r.0, kept.1 ∙ r.1)
  turn (scene s) t p l r = by (eqb (redraw_answer s t m (length p) (length l)).code 0) refl
    where
      by : (b : Bool) → eqb (redraw_answer s t m (length p) (length l)).code 0 ≡ b
          → Shows m p₀ l₀ (cond b (scene t) (scene s)) (next_surface m (scene s) t p (length l)) (next_scratch m (scene s) t (length p) l)
      by true e =
          let z = eqb-true _ _ e in
          let good = only_good_redraws_accepted s t m p (length l) z in (
            redraw_makes_picture s t m p (length l) good.0.0 good.0.1 good.1.0 good.1.1 r.0,
            accepted_redraw_clears_scratch s t m p l z ∙ ap (λ (w : List ℤ). replicate (length w) (pos 0)) r.1
                ∙ ap (λ (n : ℕ). replicate n (pos 0)) (length-replicate (length l₀) (pos 0)),
          )
      by false e =
          let kept = refused_redraw_changes_nothing s t m p l (eqb-false _ _ e) in
          (kept.0 ∙ r.0, kept.1 ∙ r.1)

  replayed_shows : (ts : List (List ℕ)) (st : State) → Shows m p₀ l₀ st.last st.surface st.scratch
      → Shows m p₀ l₀ (replayed m st ts).last (replayed m st ts).surface (replayed m st ts).scratch
  unfolding next
  replayed_shows [] st r = r
  replayed_shows (t ∷ ts) st r = replayed_shows ts (next m st t) (turn st.last t st.surface st.scratch r)

  shows : (run lengths : List ℕ)
      → Shows m p₀ l₀ (end_of run lengths m p₀ l₀).last (end_of run lengths m p₀ l₀).surface (end_of run lengths m p₀ l₀).scratch
  unfolding state_at
  shows run lengths = replayed_shows (first_scenes run lengths (length lengths)) (started p₀ l₀) (refl, refl)

  -- with a scene accepted last, the surface is its full drawing, and the scratch is zero
  pub replay_leaves_picture : (run lengths s : List ℕ) → (end_of run lengths m p₀ l₀).last ≡ scene s
      → ((end_of run lengths m p₀ l₀).surface ≡ picture s (mask_bytes m)) × ((end_of run lengths m p₀ l₀).scratch ≡ replicate (length l₀) (pos 0))
  replay_leaves_picture run lengths s e = rw e at (shows run lengths)

  -- with none, surface and scratch are as they were
  pub replay_leaves_all : (run lengths : List ℕ) → (end_of run lengths m p₀ l₀).last ≡ nothing
      → ((end_of run lengths m p₀ l₀).surface ≡ p₀) × ((end_of run lengths m p₀ l₀).scratch ≡ l₀)
  replay_leaves_all run lengths e = rw e at (shows run lengths)

-- a refused scene in the middle changes neither the picture, nor the scratch, nor which scene was accepted last
pub refused_scene_changes_nothing : (m : Mask) (st : State) (t : List ℕ) → ((answer_in m st t).code ≡ 0 → ⊥)
    → ((next m st t).last ≡ st.last) × (((next m st t).surface ≡ st.surface) × ((next m st t).scratch ≡ st.scratch))
unfolding next
refused_scene_changes_nothing m st t n = by st.last n
  where
    by : (h : Shown) → ((next_answer m h t (length st.surface) (length st.scratch)).code ≡ 0 → ⊥)
        → (cond (eqb (next_answer m h t (length st.surface) (length st.scratch)).code 0) (scene t) h ≡ h)
        × ((next_surface m h t st.surface (length st.scratch) ≡ st.surface)
        × (next_scratch m h t (length st.surface) st.scratch ≡ st.scratch))
    by nothing z = (rw (ne_eqb _ _ z), refused_draw_changes_nothing t m st.surface st.scratch z)
    by (scene s) z = (rw (ne_eqb _ _ z), refused_redraw_changes_nothing s t m st.surface st.scratch z)
