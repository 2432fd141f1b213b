-- The whole call: when it is refused, what it leaves, and what a context has noted of it.
use mathlib.Core.Path.{◌≡◌, refl, sym, ap, ◌∙◌}
use mathlib.Core.List.{List}
use mathlib.Core.Bool.{Bool, true, false, cond, not}
use Prim.Native.Nat.{ℕ, ◌*◌, ◌≤◌, ◌<◌}
use lib.Dec.{ltb, eqb}
use lib.IntN.{ℤ}
use lib.ListN.{length}
use borrow.Author.Tests.{lt-ltb, le-ltb, eq-eqb, ne_eqb, ltb-false, eqb-true, eqb-false}
use Rattle.lists.specs.Lists.{over}
use Rattle.codes.specs.Codes.{bad_length, out_of_memory}
use Rattle.render.specs.Answers.{Mask}
use Rattle.context.specs.declared.Context.{Context}
use Rattle.context.specs.Context.{first_code, noted, noted_all}
use Rattle.context.proofs.Codes.{noted_all_lem}
use Rattle.playback.specs.declared.Replayed.{Replayed}
use Rattle.playback.specs.Replay.{start_of, most_scenes, replay_code, replay_answer, replay_surface, replay_scratch, replay_answers}
use Rattle.playback.specs.Replay.{end_of, numbers_all, codes_of}

-- ---- the code: which of the whole call's rules comes first
module _ (bytes : ℕ) (lengths : List ℕ) (places : ℕ) where
  pub too_many : most_scenes < length lengths → bad_length ≡ replay_code bytes lengths places
  unfolding replay_code
  too_many h = rw (lt-ltb _ _ h)

  module _ (s : ℕ) (few : length lengths ≤ most_scenes) (sum : s ≡ start_of lengths (length lengths)) where
    pub wrong_sum : (s ≡ bytes → ⊥) → bad_length ≡ replay_code bytes lengths places
    unfolding replay_code
    wrong_sum n = rw (le-ltb _ _ few, ← sum, ne_eqb s bytes n)

    pub too_few_places : s ≡ bytes → places < length lengths * 7 → out_of_memory ≡ replay_code bytes lengths places
    unfolding replay_code
    too_few_places e l = rw (le-ltb _ _ few, ← sum, eq-eqb s bytes e, lt-ltb _ _ l)

    pub not_refused : s ≡ bytes → length lengths * 7 ≤ places → 0 ≡ replay_code bytes lengths places
    unfolding replay_code
    not_refused e l = rw (le-ltb _ _ few, ← sum, eq-eqb s bytes e, le-ltb _ _ l)

  -- a call that is not refused has what the work needs
  pub ready : replay_code bytes lengths places ≡ 0 → (start_of lengths (length lengths) ≡ bytes) × (length lengths * 7 ≤ places)
  unfolding replay_code
  ready = by (ltb most_scenes (length lengths)) (eqb (start_of lengths (length lengths)) bytes) (ltb places (length lengths * 7)) refl refl
    where
      by : (s t u : Bool) → eqb (start_of lengths (length lengths)) bytes ≡ t → ltb places (length lengths * 7) ≡ u
          → ◌≡◌ {A = ℕ} (cond s bad_length (cond (not t) bad_length (cond u out_of_memory 0))) 0
          → (start_of lengths (length lengths) ≡ bytes) × (length lengths * 7 ≤ places)
      by true t u a b e = absurd (eqb-false bad_length 0 refl e)
      by false false u a b e = absurd (eqb-false bad_length 0 refl e)
      by false true true a b e = absurd (eqb-false out_of_memory 0 refl e)
      by false true false a b e = (eqb-true _ _ a, ltb-false _ _ b)

-- ---- what a context that notes the answer's `first` has noted: the call's own code, or its scenes' in order
module _ (run lengths : List ℕ) (m : Mask) (p : List ℕ) (l : List ℤ) (places : ℕ) (c : Context) where
  pub replay_notes_own_code : (replay_code (length run) lengths places ≡ 0 → ⊥)
      → noted c (replay_answer run lengths m p l places).first ≡ noted c (replay_code (length run) lengths places)
  replay_notes_own_code n = rw (ne_eqb _ _ n)

  pub replay_notes_in_order : replay_code (length run) lengths places ≡ 0
      → noted c (replay_answer run lengths m p l places).first ≡ noted_all c (codes_of (end_of run lengths m p l).answers)
  replay_notes_in_order e = rw e (sym (noted_all_lem c (codes_of (end_of run lengths m p l).answers)))
