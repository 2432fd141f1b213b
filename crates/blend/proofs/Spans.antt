-- Parts of a row that are lent, and the runs of a row.
use mathlib.Core.Path.{◌≡◌, refl, sym, ap, subst, ◌∙◌}
use mathlib.Core.List.{List, ◌++◌}
use Prim.Native.Nat.{ℕ, suc, ◌+◌, ◌-◌, ◌*◌, ◌≤◌, ◌<◌}
use native.Mathlib.Omega.{arith}
use lib.ListN.{length, get_or, take, drop, length-take}
use lib.Seq.{get_or-take, get_or-drop}
use Rattle.lists.proofs.Laws.{part_length}
use Rattle.runs.specs.Runs.{end_of, start_of, level_of, expand, Runs}
use Rattle.runs.proofs.Expand.{starts_rise, runs_length, runs_at, runs_within}
use Rattle.color.specs.declared.Pixel.{Pixel}
use Rattle.raster.specs.Surface.{run, pixel_in}
use Rattle.raster.specs.Rows.{Stored}
use Rattle.raster.proofs.Pixels.{run_length, run_at, pixel_take, pixel_drop}
use Rattle.raster.proofs.Runs.{run_is, run_same, stored_part, part_pixel}
use Rattle.blend.specs.Unmasked.{unmasked_on}
use Rattle.blend.specs.Rows.{Coverage}

-- a turn of a loop that has g done at every pixel: a part is lent, and h is done at every pixel of it
pub part_turn : (g h : ℕ → Pixel → Pixel) (s d q : List ℕ) (i e : ℕ) → i ≤ e → e * 4 ≤ length d → Stored (λ j. g j (pixel_in d j)) d i s
    → ((j : ℕ) → j < e - i → (p : Pixel) → h j p ≡ g (i + j) p) → q ≡ run (e - i) (λ j. h j (pixel_in (take (e * 4 - i * 4) (drop (i * 4) s)) j))
    → Stored (λ j. g j (pixel_in d j)) d e (take (i * 4) s ++ (q ++ drop (e * 4 - i * 4) (drop (i * 4) s)))
part_turn g h s d q i e a b o same u =
    stored_part o q e a b
    (u
    ∙ run_same (e - i) _ (λ j. g (i + j) (pixel_in d (i + j)))
    (λ j l. same j l (pixel_in (take (e * 4 - i * 4) (drop (i * 4) s)) j) ∙ ap (g (i + j)) (part_pixel o e j l)))

-- a paint of which the same part is lent
pub part_paint : (s : List ℕ) (i e j : ℕ) → j < e - i → pixel_in (take (e * 4 - i * 4) (drop (i * 4) s)) j ≡ pixel_in s (i + j)
part_paint s i e j h =
    let w : e * 4 - i * 4 ≡ (e - i) * 4 = omega arith in
    rw w (pixel_take (drop (i * 4) s) (e - i) j h ∙ pixel_drop s i j (i + j) refl)

-- and a mask
pub part_mask : (s : List ℕ) (i e j : ℕ) → j < e - i → get_or (take (e - i) (drop i s)) j 0 ≡ get_or s (i + j) 0
part_mask s i e j h = get_or-take (e - i) (drop i s) j 0 h ∙ get_or-drop i s j 0

-- a paint of which c pixels of n are lent, all of them p
pub laid_part : (n c w : ℕ) (p : Pixel) (s : List ℕ) → s ≡ run n (λ i. p) → c ≤ n → w ≡ c * 4 → take w s ≡ run c (λ i. p)
laid_part n c w p s e h q =
    rw (e, q)
    (run_is c (λ i. p) (take (c * 4) (run n (λ i. p))) (length-take (c * 4) (run n (λ i. p)) ∙ omega (arith, run_length n (λ i. p)))
    (λ i l. pixel_take (run n (λ i. p)) c i l ∙ run_at n (λ i. p) i (omega arith)))

-- ---- runs: a run's k is its pixels'
pub run_covered : (runs : List ℕ) (n w : ℕ) → Runs runs n w → Coverage (expand runs n) → (j : ℕ) → j < n → level_of runs j ≤ 16
run_covered runs n w r c j h =
    subst (λ (k : ℕ). k ≤ 16) (runs_at runs n w r j (start_of runs j) h (omega arith) (r.rises j h))
    (c (start_of runs j) (omega (arith, r.rises j h, runs_within runs n w r j h, runs_length runs n w r)))

-- where the next one begins
pub next_start : (runs : List ℕ) (j : ℕ) → start_of runs (j + 1) ≡ end_of runs j
next_start runs j =
    let e : j + 1 ≡ suc j = omega arith in
    ap (start_of runs) e

-- of runs from first on whose pixels are lent, run j is one that is there, and lies within
pub record LentRun (runs : List ℕ) (j first a size : ℕ) : Type 0 where
  pub there : j < length runs
  pub low : first ≤ end_of runs j
  pub some : a ≤ end_of runs j - first
  pub within : (end_of runs j - first) * 4 ≤ size

pub run_lent : (runs : List ℕ) (n w : ℕ) → Runs runs n w → (j end first a size : ℕ) → j < end → end ≤ n → n ≤ length runs → first + a ≡ start_of runs j
    → size ≡ (start_of runs end - first) * 4 → LentRun runs j first a size
run_lent runs n w r j end first a size h l m e z =
    let rises = r.rises j (omega arith) in
    let ends = starts_rise runs n r.rises (suc j) end (omega arith) l in
    record { there = omega arith; low = omega (arith, rises); some = omega (arith, rises); within = omega (arith, ends) }

-- ---- a pixel that is blended along the runs of a row: of the run of a turn, what its function asks, and the turn
module _ (runs : List ℕ) (n w : ℕ) (r : Runs runs n w) (j a : ℕ) (below : j < n) (s d : List ℕ) (t : LentRun runs j 0 a (length d)) where
  pub run_asks : Coverage (expand runs n) → length s ≡ length d
      → (level_of runs j ≤ 16) × (length (take (end_of runs j * 4 - a * 4) (drop (a * 4) s)) ≡ (end_of runs j - a) * 4)
  run_asks c e = (
    run_covered runs n w r c j below,
    part_length s (a * 4) (end_of runs j * 4) (omega (arith, t.some)) (omega (arith, t.within)) ∙ omega arith,
  )

  pub run_turn : (mode : ℕ) (src : Pixel) (q : List ℕ) → a ≡ start_of runs j
      → Stored (λ i. unmasked_on mode (get_or (expand runs n) i 0) src (pixel_in d i)) d a s
      → q ≡ run (end_of runs j - a) (λ i. unmasked_on mode (level_of runs j) src (pixel_in (take (end_of runs j * 4 - a * 4) (drop (a * 4) s)) i))
      → Stored (λ i. unmasked_on mode (get_or (expand runs n) i 0) src (pixel_in d i)) d (end_of runs j)
      (take (a * 4) s ++ (q ++ drop (end_of runs j * 4 - a * 4) (drop (a * 4) s)))
  run_turn mode src q e o u =
      part_turn (λ i. unmasked_on mode (get_or (expand runs n) i 0) src) (λ i. unmasked_on mode (level_of runs j) src) s d q a (end_of runs j)
      (omega (arith, t.some)) (omega (arith, t.within)) o
      (λ i h p. ap (λ (k : ℕ). unmasked_on mode k src p) (sym (runs_at runs n w r j (a + i) below (omega arith) (omega arith)))) u
