-- Starts and parts of a run, and answers as numbers.
use mathlib.Core.Path.{◌≡◌, refl, ap}
use mathlib.Core.List.{List, [], ◌∷◌, ◌++◌}
use mathlib.Core.Logic.{⊎_elim}
use Prim.Native.Nat.{ℕ, zero, suc, ◌+◌, ◌-◌, ◌≤◌, ◌<◌}
use native.Mathlib.Nat.{eq-or-lt_of_le, le_of_suc-le-suc}
use native.Mathlib.Numerals.{add-one}
use native.Mathlib.Omega.{arith}
use lib.ListN.{length, get_or, take, drop}
use Rattle.lists.specs.Lists.{total}
use Rattle.render.specs.declared.Answer.{Answer}
use Rattle.playback.specs.Replay.{start_of, scene_at, numbers_of, numbers_all, codes_of}
use Rattle.playback.specs.Carrying.{scene_of}

total_mono : (f : ℕ → ℕ) (i n : ℕ) → i ≤ n → total i f ≤ total n f
total_mono f i zero h =
    let e : i ≡ 0 = omega arith in
    rw e (omega arith)
total_mono f i (suc n) h = ⊎_elim (λ e. rw e (omega arith)) (λ k. omega (arith, total_mono f i n (le_of_suc-le-suc k))) (eq-or-lt_of_le h)

pub start_more : (lengths : List ℕ) (i : ℕ) → start_of lengths (i + 1) ≡ start_of lengths i + get_or lengths i 0
start_more lengths i = rw add-one

-- a scene ends in the run
pub scene_ends : (run lengths : List ℕ) (i at end : ℕ) → i < length lengths → start_of lengths (length lengths) ≡ length run → at ≡ start_of lengths i
    → end ≡ at + get_or lengths i 0 → end ≤ length run
scene_ends run lengths i at end l e a b =
    omega (arith, start_more lengths i, total_mono (λ k. get_or lengths k 0) (i + 1) (length lengths) (omega arith))

pub part_is_scene : (run lengths : List ℕ) (i at : ℕ) → at ≡ start_of lengths i
    → scene_of run (record { at = at; end = at + get_or lengths i 0 }) ≡ scene_at run lengths i
part_is_scene run lengths i at a =
    let e : at + get_or lengths i 0 - at ≡ get_or lengths i 0 = omega arith in
    rw (e, a)

pub numbers_more : (xs : List Answer) (a : Answer) → numbers_all (xs ++ (a ∷ [])) ≡ numbers_all xs ++ numbers_of a
numbers_more [] a = refl
numbers_more (x ∷ xs) a = ap (λ (l : List ℕ). numbers_of x ++ l) (numbers_more xs a)

pub codes_more : (xs : List Answer) (a : Answer) → codes_of (xs ++ (a ∷ [])) ≡ codes_of xs ++ (a.code ∷ [])
codes_more [] a = refl
codes_more (x ∷ xs) a = ap (λ (l : List ℕ). x.code ∷ l) (codes_more xs a)

-- a place of seven that was lent and comes back
pub place_back : (s q : List ℕ) (place stop : ℕ) (a : Answer) → stop ≡ place + 7 → q ≡ numbers_of a
    → take place s ++ (q ++ drop (stop - place) (drop place s)) ≡ take place s ++ (numbers_of a ++ drop 7 (drop place s))
place_back s q place stop a e g =
    let k : stop - place ≡ 7 = omega arith in
    rw (k, g)
