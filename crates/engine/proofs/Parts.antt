-- A row of a gradient, part after part: the pixels between two parts are not covered, and stay as they are.
use mathlib.Core.Path.{◌≡◌, refl, sym, ap, subst, ◌∙◌}
use mathlib.Core.List.{List, ◌++◌}
use Prim.Native.Nat.{ℕ, ◌+◌, ◌-◌, ◌*◌, ◌≤◌, ◌<◌}
use native.Mathlib.Omega.{arith}
use lib.ListN.{length, get_or, take, drop, take-append-drop}
use borrow.Author.Count.{below_more}
use Rattle.lists.proofs.Laws.{part_length}
use Rattle.runs.specs.Runs.{start_of, level_of, expand, Runs}
use Rattle.runs.proofs.Expand.{starts_rise, runs_length, first_within, level_at_lem}
use Rattle.color.specs.declared.Pixel.{Pixel}
use Rattle.raster.specs.Surface.{run, pixel_in}
use Rattle.raster.specs.Rows.{Stored}
use Rattle.raster.proofs.Pixels.{run_at}
use Rattle.raster.proofs.Runs.{run_same, run_is, stored_all, stored_part, part_pixel}
use Rattle.blend.specs.PorterDuff.{composite_on}
use Rattle.blend.specs.Rows.{composite_row}
use Rattle.blend.proofs.Masks.{uncovered_masked}
use Rattle.engine.specs.Rows.{RowCoverage}
use Rattle.engine.specs.Spans.{Uncovered}
use Rattle.engine.proofs.RowLaws.{first_of, first_part}

-- where a part of a row of w pixels begins and ends
pub part_within : (runs : List ℕ) (w from to : ℕ) → RowCoverage w runs → from ≤ to → to ≤ length runs
    → (start_of runs from ≤ start_of runs to) × (start_of runs to ≤ w)
part_within runs w from to r a b = (starts_rise runs (length runs) r.0.rises from to a b, first_within runs (length runs) w r.0 to b)

-- a part of a row from a to e, whose paint q is given back at the start of the buffer
pub part_row : (mode x a e s t : ℕ) (ks q rest row r : List ℕ) (f : ℕ → Pixel) → a ≡ s → e ≡ t → length q ≡ (e - a) * 4
    → q ≡ run (e - a) (λ i. f (x + a + i))
    → r ≡ run (t - s) (λ i. composite_on mode (get_or ks (s + i) 0) 255 (pixel_in (take ((e - a) * 4 - 0) (drop 0 (q ++ rest))) i) (pixel_in row i))
    → r ≡ run (t - s) (λ i. composite_on mode (get_or ks (s + i) 0) 255 (f (x + (s + i))) (pixel_in row i))
part_row mode x a e s t ks q rest row r f b c l o u =
    u
    ∙ run_same (t - s) _ _
    (λ i k.
    let z : x + a + i ≡ x + (s + i) = omega arith in
    let m : i < e - a = omega arith in
    ap (λ (p : Pixel). composite_on mode (get_or ks (s + i) 0) 255 p (pixel_in row i))
    (ap (λ (w : List ℕ). pixel_in w i) (first_of (q ++ rest) ((e - a) * 4) ∙ first_part q rest ((e - a) * 4) l ∙ o)
    ∙ run_at (e - a) (λ i. f (x + a + i)) i m
    ∙ ap f z))

-- ---- the row, part after part
part_back : (s : List ℕ) (a k : ℕ) → take a s ++ (take k (drop a s) ++ drop k (drop a s)) ≡ s
part_back s a k = ap (λ (z : List ℕ). take a s ++ z) (take-append-drop k (drop a s)) ∙ take-append-drop a s

-- pixels that are to stay as they were are stored already
stored_kept : {f : ℕ → Pixel} {d s : List ℕ} {i : ℕ} → Stored f d i s → (e : ℕ) → i ≤ e → e * 4 ≤ length d
    → ((j : ℕ) → i ≤ j → j < e → f j ≡ pixel_in d j) → Stored f d e s
stored_kept {f = f} {d = d} {s = s} {i = i} o e h l u =
    let k : e * 4 - i * 4 ≡ (e - i) * 4 = omega arith in
    subst (Stored f d e) (part_back s (i * 4) (e * 4 - i * 4))
    (stored_part o (take (e * 4 - i * 4) (drop (i * 4) s)) e h l
    (run_is (e - i) (λ j. f (i + j)) (take (e * 4 - i * 4) (drop (i * 4) s))
    (part_length s (i * 4) (e * 4) (omega arith) (omega (arith, o.long)) ∙ k)
    (λ j m. part_pixel o e j m ∙ sym (u (i + j) (omega arith) (omega arith)))))

-- a part that is made from what stood there by g
stored_made : (g : ℕ → Pixel → Pixel) {d s : List ℕ} {a : ℕ} → Stored (λ j. g j (pixel_in d j)) d a s → (e : ℕ) (q : List ℕ) → a ≤ e
    → e * 4 ≤ length d → q ≡ run (e - a) (λ j. g (a + j) (pixel_in (take (e * 4 - a * 4) (drop (a * 4) s)) j))
    → Stored (λ j. g j (pixel_in d j)) d e (take (a * 4) s ++ (q ++ drop (e * 4 - a * 4) (drop (a * 4) s)))
stored_made g {d = d} {a = a} o e q h l u =
    stored_part o q e h l (u ∙ run_same (e - a) _ (λ j. g (a + j) (pixel_in d (a + j))) (λ j m. ap (g (a + j)) (part_pixel o e j m)))

-- what is stored at the jth pixel of a row without a mask
abbrev pub stepped : ℕ → List ℕ → (ℕ → Pixel) → List ℕ → ℕ → Pixel
stepped mode ks paint d j = composite_on mode (get_or ks j 0) 255 (paint j) (pixel_in d j)

-- a row of w pixels by its n runs
module _ (runs : List ℕ) (n w : ℕ) (r : Runs runs n w) where
  module _ (mode : ℕ) (paint : ℕ → Pixel) (d : List ℕ) (fits : length d ≡ w * 4) where
    -- up to the next run that is covered
    pub stored_past : (s : List ℕ) (j : ℕ) → Stored (stepped mode (expand runs n) paint d) d (start_of runs j) s → (m : ℕ) → Uncovered runs j m → m ≤ n
        → Stored (stepped mode (expand runs n) paint d) d (start_of runs m) s
    stored_past s j o m u h =
        stored_kept o (start_of runs m) (starts_rise runs n r.rises j m u.0 h) (omega (arith, fits, first_within runs n w r m h))
        (λ i a b. rw (level_at_lem runs n w r 0 j m u.0 h u.1 i a b) (uncovered_masked mode 255 (paint i) (pixel_in d i)))

    -- a covered part of the row, lent from its pixel a to before its pixel e
    pub stored_through : (s : List ℕ) (j m a e : ℕ) → a ≡ start_of runs j → e ≡ start_of runs m
        → Stored (stepped mode (expand runs n) paint d) d (start_of runs j) s → (q : List ℕ) → j ≤ m → m ≤ n
        → q ≡ run (start_of runs m - start_of runs j)
        (λ i. composite_on mode (get_or (expand runs n) (start_of runs j + i) 0) 255 (paint (start_of runs j + i))
        (pixel_in (take (e * 4 - a * 4) (drop (a * 4) s)) i))
        → Stored (stepped mode (expand runs n) paint d) d (start_of runs m) (take (a * 4) s ++ (q ++ drop (e * 4 - a * 4) (drop (a * 4) s)))
    stored_through s j m a e b c o q h k u =
        rw (b, c)
        (stored_made (λ i. composite_on mode (get_or (expand runs n) i 0) 255 (paint i)) o (start_of runs m) q (starts_rise runs n r.rises j m h k)
        (omega (arith, fits, first_within runs n w r m k))
        (u ∙ rw (b, c) refl))

    -- the whole row
    pub stored_whole : (s : List ℕ) (j : ℕ) → Stored (stepped mode (expand runs n) paint d) d (start_of runs j) s → j ≡ n
        → s ≡ composite_row mode (expand runs n) (λ i. 255) paint d
    stored_whole s j o e =
        stored_all o w (ap (start_of runs) e ∙ r.last) fits
        ∙ ap (λ (k : ℕ). run k (stepped mode (expand runs n) paint d)) (sym (runs_length runs n w r))
