-- The sums of a window are its winding numbers, and so its pixels' k.
use mathlib.Core.Path.{◌≡◌, refl, sym, ap, ap₂, subst, ◌∙◌}
use mathlib.Core.List.{List, [], ◌∷◌, ◌++◌, append_assoc, append-nil}
use mathlib.Core.Bool.{Bool, true, false}
use Prim.Native.Nat.{ℕ, zero, suc, ◌+◌, ◌*◌, ◌-◌, ◌/◌, ◌%◌, ◌≤◌, ◌<◌}
use native.Mathlib.Omega.{arith}
use native.Mathlib.Nat.{le_trans, add-zero, add-suc}
use lib.Dec.{ltb}
use lib.IntN.{ℤ, pos, nat_abs, ◌+ℤ◌}
use lib.ListN.{length, take, drop, get_or-eq_default}
use borrow.Author.Tests.{ltb-true, ltb-false}
use Rattle.lists.specs.Lists.{tab, total}
use Rattle.lists.proofs.Laws.{tab_length, tab_at, total_same}
use Rattle.path.specs.declared.Edge.{Edge}
use Rattle.coverage.specs.Winding.{at_or_left, weight, counts, winding, sample, one_if, inside_by, tally, coverage}
use Rattle.coverage.specs.Scanline.{at, laid, starts, running, sums_at, row_of, pixel_of, Tame, Marked}
use Rattle.coverage.proofs.Sums.{sum_small, running_starts}
use Rattle.coverage.proofs.Laid.{laid_part, laid_again, tab_same}
use Rattle.coverage.proofs.Starts.{starts_small, weight_small, cond_small}
use Rattle.coverage.proofs.Turn.{mark_same}

run_same : (f g : ℕ → ℤ) (n : ℕ) → ((i : ℕ) → i < n → f i ≡ g i) → running f n ≡ running g n
run_same f g zero h = refl
run_same f g (suc n) h = ap₂ ◌+ℤ◌ (run_same f g n (λ i l. h i (omega arith))) (h n (omega arith))

tally_same : (non_zero : Bool) (f g : ℕ → ℤ) (x y : ℕ) → ((m : ℕ) → m < 4 → f (4 * x + m) ≡ g (4 * y + m)) → tally non_zero f x ≡ tally non_zero g y
tally_same non_zero f g x y h =
    total_same 4 (λ m. one_if (inside_by non_zero (f (4 * x + m)))) (λ m. one_if (inside_by non_zero (g (4 * y + m))))
    (λ m l. ap (λ (z : ℤ). one_if (inside_by non_zero z)) (h m l))

winding_small : (es : List Edge) (X Y : ℤ) → nat_abs (winding es X Y) ≤ length es
unfolding winding counts
winding_small es X Y = sum_small (counts X Y) es (λ e. cond_small (at_or_left e X Y) (weight Y e) (weight_small Y e))

-- the sums of w pixels from column c on, in the pixel row y
module _ (c w y : ℕ) (es : List Edge) where
  abbrev pub sums_of : List ℤ
  sums_of = tab (w * 16) (sums_at c (w * 4) y es)

  pub sums_long : length sums_of ≡ w * 16
  sums_long = tab_length (w * 16) (sums_at c (w * 4) y es)

  reads : (i : ℕ) → i < w * 16 → at sums_of i ≡ sums_at c (w * 4) y es i
  reads i h = tab_at (w * 16) (sums_at c (w * 4) y es) i (pos 0) h

  -- the numbers of a sample row are what begins in it, and their running sums its winding numbers
  row_reads : (r j : ℕ) → r < 4 → j < w * 4 → row_of sums_of r j ≡ starts c (w * 4) (sample (4 * y + r)) es j
  row_reads r j h k = reads (j * 4 + r) (omega arith) ∙ ap₂ (λ (q i : ℕ). starts c (w * 4) (sample (4 * y + q)) es i) (row r j h) (column r j h)
    where
      row : (r j : ℕ) → r < 4 → (j * 4 + r) % 4 ≡ r
      row r j h = omega arith

      column : (r j : ℕ) → r < 4 → (j * 4 + r) / 4 ≡ j
      column r j h = omega arith

  row_winds : (r j : ℕ) → r < 4 → j < w * 4 → running (row_of sums_of r) (suc j) ≡ winding es (sample (c + j)) (sample (4 * y + r))
  row_winds r j h k =
      run_same (row_of sums_of r) (starts c (w * 4) (sample (4 * y + r)) es) (suc j) (λ i l. row_reads r i h (omega arith))
      ∙ running_starts c (w * 4) (sample (4 * y + r)) es j k

  pub sums_tame : length es ≤ 1000000 → Tame sums_of (w * 4)
  sums_tame few = record {
    each = λ j. by j (ltb j (w * 16)) refl;
    sums = small;
  }
    where
      by : (j : ℕ) (t : Bool) → ltb j (w * 16) ≡ t → nat_abs (at sums_of j) ≤ 1000000
      by j true q =
          subst (λ (z : ℤ). nat_abs z ≤ 1000000) (sym (reads j (ltb-true j (w * 16) q)))
          (le_trans (starts_small c (w * 4) (sample (4 * y + j % 4)) es (j / 4)) few)
      by j false q =
          subst (λ (z : ℤ). nat_abs z ≤ 1000000) (sym (get_or-eq_default sums_of (pos 0) (omega (arith, sums_long, ltb-false j (w * 16) q)))) (omega arith)

      small : (r j : ℕ) → r < 4 → j ≤ w * 4 → nat_abs (running (row_of sums_of r) j) ≤ 1000000
      small r zero h k = omega arith
      small r (suc j) h k =
          subst (λ (z : ℤ). nat_abs z ≤ 1000000) (sym (row_winds r j h k)) (le_trans (winding_small es (sample (c + j)) (sample (4 * y + r))) few)

  pub sums_marked : (d : List ℕ) → length d ≡ w → Marked d (sums_at c (w * 4) y es) → Marked d (at sums_of)
  sums_marked d e = mark_same d (sums_at c (w * 4) y es) (at sums_of) (λ i h. sym (reads i (omega (arith, e))))

-- k of the pixels from x on
pub window_covers : (x w y : ℕ) (es : List Edge) (non_zero : Bool)
    → tab w (pixel_of non_zero (sums_of (4 * x) w y es)) ≡ tab w (λ i. coverage es non_zero (x + i) y)
unfolding coverage
window_covers x w y es non_zero =
    tab_same w (pixel_of non_zero (sums_of (4 * x) w y es)) (λ i. total 4 (λ r. tally non_zero (λ j. winding es (sample j) (sample (4 * y + r))) (x + i)))
    (λ i h. total_same 4 (λ r. tally non_zero (λ j. running (row_of (sums_of (4 * x) w y es) r) (suc j)) i)
    (λ r. tally non_zero (λ j. winding es (sample j) (sample (4 * y + r))) (x + i))
    (λ r l. tally_same non_zero (λ j. running (row_of (sums_of (4 * x) w y es) r) (suc j)) (λ j. winding es (sample j) (sample (4 * y + r))) i (x + i)
    (λ m k. row_winds (4 * x) w y es r (4 * i + m) l (omega arith) ∙ ap (λ (n : ℕ). winding es (sample n) (sample (4 * y + r))) (omega arith))))

-- the part that is lent, and the scratch with zeros in its place
module _ (b m : ℕ) (l q r : List ℤ) (h : b + m ≤ length l) (e : length q ≡ m) (now : r ≡ laid b m l q) where
  width : (b m : ℕ) → b + m - b ≡ m
  width b m = omega arith

  pub part_is : take (b + m - b) (drop b r) ≡ q
  part_is = ap₂ (λ (n : ℕ) (t : List ℤ). take n (drop b t)) (width b m) now ∙ laid_part b m l q h e

  pub given_back : (z : List ℤ) → l ≡ laid b m l z → take b r ++ (z ++ drop (b + m - b) (drop b r)) ≡ l
  given_back z o = ap₂ (λ (n : ℕ) (t : List ℤ). laid b n t z) (width b m) now ∙ laid_again b m l q h e z ∙ sym o

-- ---- window after window along a row
pub tab_join : {A : Type 0} (i m : ℕ) (f : ℕ → A) → tab i f ++ tab m (λ j. f (i + j)) ≡ tab (i + m) f
tab_join i zero f = append-nil (tab i f) ∙ ap (λ (n : ℕ). tab n f) (sym (add-zero i))
tab_join i (suc m) f =
    sym (append_assoc (tab i f) (tab m (λ j. f (i + j))) (f (i + m) ∷ []))
    ∙ ap (λ t. t ++ (f (i + m) ∷ [])) (tab_join i m f) ∙ ap (λ (n : ℕ). tab n f) (sym (add-suc i m))

module _ (es : List Edge) (non_zero : Bool) (x y : ℕ) where
  -- k of the pixel i of the row
  abbrev pub k_of : ℕ → ℕ
  k_of i = coverage es non_zero (x + i) y

  together : (i m : ℕ) → tab m (λ j. coverage es non_zero (x + i + j) y) ≡ tab m (λ j. k_of (i + j))
  together i m =
      tab_same m (λ j. coverage es non_zero (x + i + j) y) (λ j. k_of (i + j)) (λ j h. ap (λ (k : ℕ). coverage es non_zero k y) (added x i j))
    where
      added : (x i j : ℕ) → x + i + j ≡ x + (i + j)
      added x i j = omega arith

  -- the window's k after those of the pixels before it
  pub runs_turn : (s t : List ℕ) (i e m : ℕ) → i ≤ e → m ≡ e - i → s ≡ tab i k_of → t ≡ s ++ tab m (λ j. coverage es non_zero (x + i + j) y) → t ≡ tab e k_of
  runs_turn s t i e m a w o p =
      let n : i + m ≡ e = omega arith in
      p ∙ ap₂ (λ (u v : List ℕ). u ++ v) o (together i m) ∙ tab_join i m k_of ∙ ap (λ (k : ℕ). tab k k_of) n
