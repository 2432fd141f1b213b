-- Paper 02, P13: scenes one behind another in one run, each redrawn from the one accepted last, or drawn in full while there is none.
-- The whole is the single calls' definitions, one after the other.
use Rattle.std.specs.Prelude.{ℕ, ◌*◌, cond, not, ltb, eqb, ℤ, length, get_or, take, drop}
use mathlib.Core.List.{List, [], ◌∷◌, ◌++◌, foldl}
use Rattle.lists.specs.Lists.{tab, over, total}
use Rattle.codes.specs.Codes.{accepted_code, bad_length, out_of_memory}
use Rattle.render.specs.declared.Answer.{Answer}
use Rattle.render.specs.Answers.{Mask, draw_answer, draw_surface, draw_scratch, redraw_answer, redraw_surface, redraw_scratch}
use Rattle.context.specs.Context.{first_code}
use Rattle.playback.specs.declared.Replayed.{Replayed}

-- ---- the scenes of a run, by their lengths
-- where scene i starts: behind the scenes before it
abbrev pub start_of : List ℕ → ℕ → ℕ
start_of lengths i = total i (λ k. get_or lengths k 0)

abbrev pub scene_at : List ℕ → List ℕ → ℕ → List ℕ
scene_at run lengths i = take (get_or lengths i 0) (drop (start_of lengths i) run)

abbrev pub first_scenes : List ℕ → List ℕ → ℕ → List (List ℕ)
first_scenes run lengths n = tab n (scene_at run lengths)

-- ---- one scene, by what is shown: nothing yet, or the scene accepted last
pub data Shown : Type 0 where
  nothing : Shown
  scene : List ℕ → Shown

abbrev pub next_answer : Mask → Shown → List ℕ → ℕ → ℕ → Answer
next_answer m nothing new surface_bytes scratch = draw_answer new m surface_bytes scratch
next_answer m (scene old) new surface_bytes scratch = redraw_answer old new m surface_bytes scratch

abbrev pub next_surface : Mask → Shown → List ℕ → List ℕ → ℕ → List ℕ
next_surface m nothing new surface scratch = draw_surface new m surface scratch
next_surface m (scene old) new surface scratch = redraw_surface old new m surface scratch

abbrev pub next_scratch : Mask → Shown → List ℕ → ℕ → List ℤ → List ℤ
next_scratch m nothing new surface_bytes scratch = draw_scratch new m surface_bytes scratch
next_scratch m (scene old) new surface_bytes scratch = redraw_scratch old new m surface_bytes scratch

-- ---- the calls made one by one
pub record State : Type 0 where
  pub last : Shown
  pub surface : List ℕ
  pub scratch : List ℤ
  pub answers : List Answer

abbrev pub answer_in : Mask → State → List ℕ → Answer
answer_in m st new = next_answer m st.last new (length st.surface) (length st.scratch)

-- a refused scene is not the one accepted last
unfoldable pub next : Mask → State → List ℕ → State
next m st new =
    record {
      last = cond (eqb (answer_in m st new).code accepted_code) (scene new) st.last;
      surface = next_surface m st.last new st.surface (length st.scratch);
      scratch = next_scratch m st.last new (length st.surface) st.scratch;
      answers = st.answers ++ (answer_in m st new ∷ []);
    }

abbrev pub started : List ℕ → List ℤ → State
started surface scratch = record { last = nothing; surface = surface; scratch = scratch; answers = [] }

abbrev pub replayed : Mask → State → List (List ℕ) → State
replayed m = foldl (next m)

-- after the first i scenes of a run, and after all
unfoldable pub state_at : List ℕ → List ℕ → Mask → List ℕ → List ℤ → ℕ → State
state_at run lengths m surface scratch i = replayed m (started surface scratch) (first_scenes run lengths i)

abbrev pub end_of : List ℕ → List ℕ → Mask → List ℕ → List ℤ → State
end_of run lengths m surface scratch = state_at run lengths m surface scratch (length lengths)

-- ---- the answers as numbers, seven for each, and their codes
abbrev pub numbers_of : Answer → List ℕ
numbers_of a = a.code ∷ a.draw ∷ a.scene ∷ a.x ∷ a.y ∷ a.width ∷ a.height ∷ []

abbrev pub numbers_all : List Answer → List ℕ
numbers_all [] = []
numbers_all (a ∷ rest) = numbers_of a ++ numbers_all rest

abbrev pub codes_of : List Answer → List ℕ
codes_of [] = []
codes_of (a ∷ rest) = a.code ∷ codes_of rest

-- ---- the whole call
abbrev pub most_scenes : ℕ
most_scenes = 600

-- its code, from the run's length, the lengths and the places for answers: more than 600 scenes, or lengths that do not add up; then too few places
unfoldable pub replay_code : ℕ → List ℕ → ℕ → ℕ
replay_code bytes lengths places =
    cond (ltb most_scenes (length lengths)) bad_length
    (cond (not (eqb (start_of lengths (length lengths)) bytes)) bad_length
    (cond (ltb places (length lengths * 7)) out_of_memory
    accepted_code))

-- a where the whole call is not refused, else b
abbrev pub unless : {A : Type 0} → ℕ → A → A → A
unless code a b = cond (eqb code accepted_code) a b

-- what a call answers: its code, and what it notes, that code or else the first other than 0 of its scenes'
abbrev pub replay_answer : List ℕ → List ℕ → Mask → List ℕ → List ℤ → ℕ → Replayed
replay_answer run lengths m surface scratch places =
    record {
      code = replay_code (length run) lengths places;
      first = unless (replay_code (length run) lengths places) (first_code (codes_of (end_of run lengths m surface scratch).answers))
          (replay_code (length run) lengths places);
    }

abbrev pub replay_surface : List ℕ → List ℕ → Mask → List ℕ → List ℤ → ℕ → List ℕ
replay_surface run lengths m surface scratch places =
    unless (replay_code (length run) lengths places) (end_of run lengths m surface scratch).surface surface

abbrev pub replay_scratch : List ℕ → List ℕ → Mask → List ℕ → List ℤ → ℕ → List ℤ
replay_scratch run lengths m surface scratch places =
    unless (replay_code (length run) lengths places) (end_of run lengths m surface scratch).scratch scratch

-- later places are as they were
abbrev pub replay_answers : List ℕ → List ℕ → Mask → List ℕ → List ℤ → List ℕ → List ℕ
replay_answers run lengths m surface scratch answers =
    unless (replay_code (length run) lengths (length answers)) (over (numbers_all (end_of run lengths m surface scratch).answers) answers) answers
