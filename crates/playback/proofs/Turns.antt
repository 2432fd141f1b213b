-- A turn of the replay's loop: the state after i + 1 scenes is the next of the state after i.
use mathlib.Core.Path.{◌≡◌, refl, sym, ap, ◌∙◌}
use mathlib.Core.List.{List, [], ◌∷◌, ◌++◌, foldl-append}
use mathlib.Core.Bool.{Bool, true, false, cond}
use Prim.Native.Nat.{ℕ, ◌+◌, ◌*◌, ◌≤◌, ◌<◌}
use native.Mathlib.Omega.{arith}
use lib.Dec.{eqb}
use lib.IntN.{ℤ}
use lib.ListN.{length, get_or, take, drop, length-append}
use borrow.Author.Tests.{eqb-true}
use Rattle.std.specs.Prelude.{None, Some}
use Rattle.lists.specs.Lists.{over}
use Rattle.lists.proofs.Laws.{upto_more, over_part}
use Rattle.render.specs.declared.Answer.{Answer}
use Rattle.render.specs.Answers.{Mask, Accepted}
use Rattle.render.proofs.Demands.{only_good_draws_accepted, only_good_redraws_accepted}
use Rattle.context.specs.Context.{keep, first_code}
use Rattle.context.proofs.Codes.{keep_none, first_of_both}
use Rattle.playback.specs.declared.Carried.{Carried}
use Rattle.playback.specs.declared.Part.{Part}
use Rattle.playback.specs.Replay.{start_of, scene_at, first_scenes, Shown, nothing, scene, next_answer, next_surface, next_scratch}
use Rattle.playback.specs.Replay.{State, answer_in, next, replayed, started, state_at, numbers_of, numbers_all, codes_of}
use Rattle.playback.specs.Carrying.{scene_of, shown_of, carried_on, Fits, Lies}
use Rattle.playback.proofs.Runs.{start_more, scene_ends, part_is_scene, numbers_more, codes_more}

-- ---- what is carried on
module _ (c : Carried) (p : Part) (code : ℕ) where
  -- by the test of the code
  abbrev carried_by : Bool → Carried
  carried_by t = cond t (record { last = Some p; first = c.first }) (record { last = c.last; first = keep c.first code })

  shown_next : (run : List ℕ) → shown_of run (carried_on c p code).last ≡ cond (eqb code 0) (scene (scene_of run p)) (shown_of run c.last)
  shown_next run = by (eqb code 0)
    where
      by : (t : Bool) → shown_of run (carried_by t).last ≡ cond t (scene (scene_of run p)) (shown_of run c.last)
      by true = refl
      by false = refl

  first_next : (carried_on c p code).first ≡ keep c.first code
  first_next = by (eqb code 0) refl
    where
      by : (t : Bool) → eqb code 0 ≡ t → (carried_by t).first ≡ keep c.first code
      by true e =
          let z : code ≡ 0 = eqb-true code 0 e in
          rw z (sym (keep_none c.first))
      by false e = refl

  fits_next : (m : Mask) (run : List ℕ) → Fits m run c.last → Lies run p → (code ≡ 0 → Accepted m (scene_of run p))
      → Fits m run (carried_on c p code).last
  fits_next m run f l good = by (eqb code 0) refl
    where
      by : (t : Bool) → eqb code 0 ≡ t → Fits m run (carried_by t).last
      by true e = (l, good (eqb-true code 0 e))
      by false e = f

-- a scene with the code 0 passed the scene rules
next_accepted : (m : Mask) (h : Shown) (t p : List ℕ) (scratch : ℕ) → (next_answer m h t (length p) scratch).code ≡ 0 → Accepted m t
next_accepted m nothing t p scratch e = (only_good_draws_accepted t m p scratch e).0
next_accepted m (scene s) t p scratch e = (only_good_redraws_accepted s t m p scratch e).0.1

-- ---- what the code holds beside the state of the definition, after k scenes
pub record Held (run out₀ : List ℕ) (st : State) (k : ℕ) (c : Carried) (p : List ℕ) (l : List ℤ) (o : List ℕ) : Type 0 where
  pub picture : p ≡ st.surface
  pub working : l ≡ st.scratch
  pub out : o ≡ over (numbers_all st.answers) out₀
  pub wrote : length (numbers_all st.answers) ≡ k * 7
  pub shown : shown_of run c.last ≡ st.last
  pub code : c.first ≡ first_code (codes_of st.answers)

four : {X : Type 0} (f : Shown → List ℕ → List ℕ → List ℤ → X) {s s' : Shown} {t t' p p' : List ℕ} {l l' : List ℤ}
    → s ≡ s' → t ≡ t' → p ≡ p' → l ≡ l' → f s t p l ≡ f s' t' p' l'
four f a b c d = λ i. f (a i) (b i) (c i) (d i)

-- what a turn leaves, from what is carried, surface, scratch and answers
pub record Turned (m : Mask) (run : List ℕ) (c : Carried) (at : Part) (k : ℕ) (p : List ℕ) (l : List ℤ) (o : List ℕ)
    (c' : Carried) (p' : List ℕ) (l' : List ℤ) (o' : List ℕ) : Type 0 where
  pub carried : c' ≡ carried_on c at (next_answer m (shown_of run c.last) (scene_of run at) (length p) (length l)).code
  pub picture : p' ≡ next_surface m (shown_of run c.last) (scene_of run at) p (length l)
  pub working : l' ≡ next_scratch m (shown_of run c.last) (scene_of run at) (length p) l
  pub out : o' ≡ take (k * 7) o
      ++ (numbers_of (next_answer m (shown_of run c.last) (scene_of run at) (length p) (length l)) ++ drop 7 (drop (k * 7) o))

module _ (m : Mask) (run out₀ : List ℕ) (st : State) (k : ℕ) (c : Carried) (p : List ℕ) (l : List ℤ) (o : List ℕ) (h : Held run out₀ st k c p l o) where
  held_next : (at : Part) (t : List ℕ) (c' : Carried) (p' : List ℕ) (l' : List ℤ) (o' : List ℕ) → scene_of run at ≡ t
      → k * 7 + 7 ≤ length out₀ → Turned m run c at k p l o c' p' l' o' → Held run out₀ (next m st t) (k + 1) c' p' l' o'
  unfolding next
  held_next at t c' p' l' o' is-t room r =
      let answer : Answer = next_answer m (shown_of run c.last) (scene_of run at) (length p) (length l) in
      let same : answer ≡ answer_in m st t = four (λ s u v w. next_answer m s u (length v) (length w)) h.shown is-t h.picture h.working in
      let numbers : List ℕ = numbers_all st.answers in
      let more : numbers ++ numbers_of answer ≡ numbers_all (st.answers ++ (answer_in m st t ∷ [])) =
      ap (λ (a : Answer). numbers ++ numbers_of a) same ∙ sym (numbers_more st.answers (answer_in m st t)) in
      let long : length (numbers ++ numbers_of answer) ≡ (k + 1) * 7 = rw (length-append, h.wrote) (omega arith) in
      let codes : first_code (codes_of (st.answers ++ (answer_in m st t ∷ []))) ≡ keep (first_code (codes_of st.answers)) (answer_in m st t).code =
      ap first_code (codes_more st.answers (answer_in m st t))
      ∙ first_of_both (codes_of st.answers) ((answer_in m st t).code ∷ [])
      ∙ ap (keep (first_code (codes_of st.answers))) (keep_none (answer_in m st t).code) in
      record {
        picture = r.picture ∙ four (λ s u v w. next_surface m s u v (length w)) h.shown is-t h.picture h.working;
        working = r.working ∙ four (λ s u v w. next_scratch m s u (length v) w) h.shown is-t h.picture h.working;
        out = r.out ∙ ap (λ (x : List ℕ). take (k * 7) x ++ (numbers_of answer ++ drop 7 (drop (k * 7) x))) h.out
            ∙ over_part numbers out₀ (numbers_of answer) (k * 7) 7 h.wrote refl room
            ∙ ap (λ (x : List ℕ). over x out₀) more;
        wrote = ap length (sym more) ∙ long;
        shown = ap (λ (x : Carried). shown_of run x.last) r.carried ∙ shown_next c at answer.code run
            ∙ (λ i. cond (eqb (same i).code 0) (scene (is-t i)) (h.shown i));
        code = ap (λ (x : Carried). x.first) r.carried ∙ first_next c at answer.code ∙ (λ i. keep (h.code i) (same i).code) ∙ sym codes;
      }

-- ---- the loop
module _ (run lengths : List ℕ) (m : Mask) (p₀ : List ℕ) (l₀ : List ℤ) where
  pub state_more : (i : ℕ) → state_at run lengths m p₀ l₀ (i + 1) ≡ next m (state_at run lengths m p₀ l₀ i) (scene_at run lengths i)
  unfolding state_at
  state_more i =
      ap (replayed m (started p₀ l₀)) (upto_more i (λ k. scene_at run lengths k ∷ []))
      ∙ foldl-append (next m) (started p₀ l₀) (first_scenes run lengths i) (scene_at run lengths i ∷ [])

  -- after i scenes
  pub record Done (out₀ : List ℕ) (i : ℕ) (c : Carried) (from : ℕ) (p : List ℕ) (l : List ℤ) (o : List ℕ) : Type 0 where
    pub start : from ≡ start_of lengths i
    pub fits : Fits m run c.last
    pub held : Held run out₀ (state_at run lengths m p₀ l₀ i) i c p l o

  module _ (out₀ : List ℕ) where
    pub done_first : Done out₀ 0 (record { last = None; first = 0 }) 0 p₀ l₀ out₀
    unfolding state_at
    done_first =
        record {
          start = refl;
          fits = tt;
          held = record { picture = refl; working = refl; out = refl; wrote = refl; shown = refl; code = refl };
        }

    -- scene i lies in the run
    pub lies : (i from : ℕ) (c : Carried) (p : List ℕ) (l : List ℤ) (o : List ℕ) → Done out₀ i c from p l o → i < length lengths
        → start_of lengths (length lengths) ≡ length run → Lies run (record { at = from; end = from + get_or lengths i 0 })
    lies i from c p l o d less whole =
        record { starts = omega arith; ends = scene_ends run lengths i from (from + get_or lengths i 0) less whole d.start refl }

    pub done_next : (i from : ℕ) (c : Carried) (p : List ℕ) (l : List ℤ) (o : List ℕ) (c' : Carried) (p' : List ℕ) (l' : List ℤ) (o' : List ℕ)
        → Done out₀ i c from p l o → i < length lengths → start_of lengths (length lengths) ≡ length run → length lengths * 7 ≤ length out₀
        → Turned m run c (record { at = from; end = from + get_or lengths i 0 }) i p l o c' p' l' o'
        → Done out₀ (i + 1) c' (from + get_or lengths i 0) p' l' o'
    done_next i from c p l o c' p' l' o' d less whole room r =
        let at : Part = record { at = from; end = from + get_or lengths i 0 } in
        let code : ℕ = (next_answer m (shown_of run c.last) (scene_of run at) (length p) (length l)).code in
        let there : scene_of run at ≡ scene_at run lengths i = part_is_scene run lengths i from d.start in
        record {
          start = omega (arith, start_more lengths i, d.start);
          fits = rw r.carried
              (fits_next c at code m run d.fits (lies i from c p l o d less whole) (next_accepted m (shown_of run c.last) (scene_of run at) p (length l)));
          held = rw (state_more i)
              (held_next m run out₀ (state_at run lengths m p₀ l₀ i) i c p l o d.held at (scene_at run lengths i) c' p' l' o' there (omega arith) r);
        }
