-- The edges that a band of pixel rows needs: the others begin nothing in it.
use mathlib.Core.Path.{◌≡◌, refl, sym, ap, ap₂, subst, ◌∙◌}
use mathlib.Core.List.{List, [], ◌∷◌, ◌++◌, append-nil}
use mathlib.Core.Bool.{Bool, true, false, cond, ◌&&◌}
use Prim.Native.Nat.{ℕ, zero, suc, ◌+◌, ◌*◌, ◌-◌, ◌≤◌, ◌<◌}
use native.Mathlib.Omega.{arith}
use native.Mathlib.Decide.{ℕ_discrete}
use native.Mathlib.Nat.{add-zero}
use lib.Dec.{T, ltb}
use borrow.Author.Tests.{ltb-true, ltb-false, lt-ltb, le-ltb}
use lib.IntN.{ℤ}
use lib.Signed.{le_z, lt_z, le_z_yes, lt_z_yes}
use lib.ListN.{length, get_or, set, take, length-append, get_or-append}
use lib.Seq.{take-set-le, get_or_at}
use Rattle.lists.specs.Lists.{tab}
use Rattle.lists.proofs.Laws.{take_put}
use Rattle.fixed.proofs.Poly.{var, num, le, lt, from_le, from_lt}
use Rattle.fixed.proofs.Tests.{is_true, is_false, both_left, both_right}
use Rattle.path.specs.Stored.{edge_at, edges_of}
use Rattle.coverage.specs.Winding.{sample}
use Rattle.coverage.specs.Scanline.{sums_at, missed, laid, Marked}
use Rattle.coverage.specs.Band.{apart, listed, reach, Kept, Needed, Band}
use Rattle.coverage.proofs.Starts.{missed_more}
use Rattle.coverage.proofs.Laid.{tab_same}
use Rattle.coverage.proofs.Turn.{mark_same}

-- ---- an edge apart from a band misses each of its rows
module _ (y0 y1 : ℤ) (from end y : ℕ) (a : from ≤ y) (b : y < end) where
  low : (z : ℤ) → T (le_z z (sample (4 * from))) → le_z z (sample (4 * y)) ≡ true
  low z t = is_true (le_z z (sample (4 * y)))
      (le (var z) (num (64 * (4 * y) + 32)) (omega (arith, from_le (var z) (num (64 * (4 * from) + 32)) (le_z_yes t)))).le

  high : (z : ℤ) → T (lt_z (sample (4 * end - 1)) z) → lt_z (sample (4 * y + 3)) z ≡ true
  high z t = is_true (lt_z (sample (4 * y + 3)) z)
      (lt (num (64 * (4 * y + 3) + 32)) (var z) (omega (arith, from_lt (num (64 * (4 * end - 1) + 32)) (var z) (lt_z_yes t)))).lt

  over : (z : ℤ) → T (lt_z (sample (4 * end - 1)) z) → le_z z (sample (4 * y)) ≡ false
  over z t = is_false (le_z z (sample (4 * y)))
      (λ u. omega (arith, from_lt (num (64 * (4 * end - 1) + 32)) (var z) (lt_z_yes t), from_le (var z) (num (64 * (4 * y) + 32)) (le_z_yes u)))

  apart_misses : apart y0 y1 from end ≡ true → missed y0 y1 y ≡ true
  apart_misses q = by (le_z y0 (sample (4 * from))) refl (subst T (sym q) tt)
    where
      by : (t : Bool) → le_z y0 (sample (4 * from)) ≡ t
          → T (cond t (le_z y1 (sample (4 * from))) (lt_z (sample (4 * end - 1)) y0 && lt_z (sample (4 * end - 1)) y1)) → missed y0 y1 y ≡ true
      by true p u =
          ap₂ (λ (s t : Bool). cond s t (lt_z (sample (4 * y + 3)) y0 && lt_z (sample (4 * y + 3)) y1)) (low y0 (subst T (sym p) tt)) (low y1 u)
      by false p u =
          let h = both_left (lt_z (sample (4 * end - 1)) y0) (lt_z (sample (4 * end - 1)) y1) u in
          let k = both_right (lt_z (sample (4 * end - 1)) y0) (lt_z (sample (4 * end - 1)) y1) u in
          ap (λ (s : Bool). cond s (le_z y1 (sample (4 * y))) (lt_z (sample (4 * y + 3)) y0 && lt_z (sample (4 * y + 3)) y1)) (over y0 h)
          ∙ ap₂ (λ (s t : Bool). s && t) (high y0 h) (high y1 k)

-- ---- a turn of the loop that lists them
pub list_turn : (s p : List ℕ) (k i : ℕ) (t : Bool) → k < length s → take k s ≡ p → take (k + cond t 0 1) (set s k i) ≡ p ++ cond t [] (i ∷ [])
list_turn s p k i true h e = ap (λ (m : ℕ). take m (set s k i)) (add-zero k) ∙ take-set-le k s k i (omega arith) ∙ e ∙ sym (append-nil p)
list_turn s p k i false h e = take_put s k (k + 1) i refl h ∙ ap (λ (q : List ℕ). q ++ (i ∷ [])) e

-- ---- what lies between two listed places is apart: so the sums of all edges before the one place are those of all before the other
module _ (P : ℕ → Bool) (js : List ℕ) (n : ℕ) (k : Kept P js n) where
  reach_more : (j i : ℕ) → (i < reach js n j → P i ≡ true) → P n ≡ true → i < reach js (n + 1) j → P i ≡ true
  reach_more j i h q = by (ltb j (length js)) h
    where
      by : (t : Bool) → (i < cond t (get_or js j 0) n → P i ≡ true) → i < cond t (get_or js j 0) (n + 1) → P i ≡ true
      by true f l = f l
      by false f l = last (ℕ_discrete i n)
        where
          last : Dec (i ≡ n) → P i ≡ true
          last (yes e) = ap P e ∙ q
          last (no e) = f (omega arith)

  reach_grows : (j m : ℕ) → m < reach js n j → m < reach js (n + 1) j
  reach_grows j m = by (ltb j (length js))
    where
      by : (t : Bool) → m < cond t (get_or js j 0) n → m < cond t (get_or js j 0) (n + 1)
      by true l = l
      by false l = omega arith

  kept_more : P n ≡ true → Kept P js (n + 1)
  kept_more q = record {
    below = λ j h. omega (arith, k.below j h);
    rise = λ j h. reach_grows (j + 1) (get_or js j 0) (k.rise j h);
    first = λ i. reach_more 0 i (k.first i) q;
    gap = λ j i h a. reach_more (j + 1) i (k.gap j i h a) q;
  }

  long : length (js ++ (n ∷ [])) ≡ length js + 1
  long = length-append js (n ∷ [])

  front : (j : ℕ) → j < length js → get_or (js ++ (n ∷ [])) j 0 ≡ get_or js j 0
  front j h = get_or-append js (n ∷ []) 0 j h

  reach_put : (j : ℕ) → j ≤ length js → reach (js ++ (n ∷ [])) (n + 1) j ≡ reach js n j
  reach_put j h =
      ap (λ (t : Bool). cond t (get_or (js ++ (n ∷ [])) j 0) (n + 1)) (lt-ltb j (length (js ++ (n ∷ []))) (omega (arith, long)))
      ∙ by (ltb j (length js)) refl
    where
      by : (t : Bool) → ltb j (length js) ≡ t → get_or (js ++ (n ∷ [])) j 0 ≡ cond t (get_or js j 0) n
      by true q = front j (ltb-true j (length js) q)
      by false q = get_or_at js n [] 0 j (omega (arith, ltb-false j (length js) q))

  reach_last : reach (js ++ (n ∷ [])) (n + 1) (length js + 1) ≡ n + 1
  reach_last =
      ap (λ (t : Bool). cond t (get_or (js ++ (n ∷ [])) (length js + 1) 0) (n + 1)) (le-ltb (length js + 1) (length (js ++ (n ∷ []))) (omega (arith, long)))

  end_at : get_or (js ++ (n ∷ [])) (length js) 0 ≡ n
  end_at = get_or_at js n [] 0 (length js) refl

  kept_put : Kept P (js ++ (n ∷ [])) (n + 1)
  kept_put = record {
    below = λ j h. below j h (ℕ_discrete j (length js));
    rise = λ j h. rise j h (ℕ_discrete j (length js));
    first = λ i h. k.first i (subst (λ (m : ℕ). i < m) (reach_put 0 (omega arith)) h);
    gap = λ j i h a b. gap j i h a b (ℕ_discrete j (length js));
  }
    where
      below : (j : ℕ) → j < length (js ++ (n ∷ [])) → Dec (j ≡ length js) → get_or (js ++ (n ∷ [])) j 0 < n + 1
      below j h (yes e) = subst (λ (m : ℕ). get_or (js ++ (n ∷ [])) m 0 < n + 1) (sym e) (omega (arith, end_at))
      below j h (no e) =
          let l : j < length js = omega (arith, long) in
          omega (arith, front j l, k.below j l)

      rise : (j : ℕ) → j < length (js ++ (n ∷ [])) → Dec (j ≡ length js) → get_or (js ++ (n ∷ [])) j 0 < reach (js ++ (n ∷ [])) (n + 1) (j + 1)
      rise j h (yes e) = subst (λ (m : ℕ). get_or (js ++ (n ∷ [])) m 0 < reach (js ++ (n ∷ [])) (n + 1) (m + 1)) (sym e) (omega (arith, end_at, reach_last))
      rise j h (no e) =
          let l : j < length js = omega (arith, long) in
          omega (arith, front j l, reach_put (j + 1) (omega arith), k.rise j l)

      gap : (j i : ℕ) → j < length (js ++ (n ∷ [])) → get_or (js ++ (n ∷ [])) j 0 < i → i < reach (js ++ (n ∷ [])) (n + 1) (j + 1)
          → Dec (j ≡ length js) → P i ≡ true
      gap j i h a b (yes e) =
          let low = subst (λ (m : ℕ). get_or (js ++ (n ∷ [])) m 0 < i) e a in
          let high = subst (λ (m : ℕ). i < reach (js ++ (n ∷ [])) (n + 1) (m + 1)) e b in
          absurd (omega (arith, end_at, reach_last, low, high))
      gap j i h a b (no e) =
          let l : j < length js = omega (arith, long) in
          k.gap j i l (omega (arith, front j l)) (omega (arith, reach_put (j + 1) (omega arith)))

module _ (l : List ℤ) (from end : ℕ) where
  abbrev out : ℕ → Bool
  out i = apart (edge_at l i).y0 (edge_at l i).y1 from end

  listed_kept : (n : ℕ) → Kept out (listed l from end n) n
  listed_kept zero = record {
    below = λ j h. absurd (omega (arith, h));
    rise = λ j h. absurd (omega (arith, h));
    first = λ i h. absurd (omega (arith, h));
    gap = λ j i h a b. absurd (omega (arith, h));
  }
  listed_kept (suc n) = by (out n) refl (listed_kept n)
    where
      one : n + 1 ≡ suc n
      one = omega arith

      by : (t : Bool) → out n ≡ t → Kept out (listed l from end n) n → Kept out (listed l from end n ++ cond t [] (n ∷ [])) (suc n)
      by true q k =
          subst (Kept out (listed l from end n ++ [])) one
          (subst (λ (js : List ℕ). Kept out js (n + 1)) (sym (append-nil (listed l from end n))) (kept_more out (listed l from end n) n k q))
      by false q k = subst (Kept out (listed l from end n ++ (n ∷ []))) one (kept_put out (listed l from end n) n k)

  -- of a row of the band
  listed_missed : (n y : ℕ) → from ≤ y → y < end → Needed l n y (listed l from end n)
  listed_missed n y a b =
      let k = listed_kept n in
      let h : (i : ℕ) → out i ≡ true → missed (edge_at l i).y0 (edge_at l i).y1 y ≡ true = λ i. apart_misses (edge_at l i).y0 (edge_at l i).y1 from end y a b in
      record { below = k.below; rise = k.rise; first = λ i u. h i (k.first i u); gap = λ j i u v t. h i (k.gap j i u v t) }

  pub listed_band : (n : ℕ) (js : List ℕ) → js ≡ listed l from end n → Band l n from end js
  listed_band n js q = subst (Band l n from end) (sym q) (record { row = listed_missed n })

-- edges that miss a row, one after the other
module _ (l : List ℤ) (y c w : ℕ) where
  abbrev all : ℕ → ℕ → ℤ
  all n x = sums_at c w y (edges_of l n) x

  misses_from : (p k x : ℕ) → ((i : ℕ) → p ≤ i → i < p + k → missed (edge_at l i).y0 (edge_at l i).y1 y ≡ true) → all p x ≡ all (p + k) x
  misses_from p zero x h = ap (λ (n : ℕ). all n x) (none p)
    where
      none : (p : ℕ) → p ≡ p + 0
      none p = omega arith
  misses_from p (suc k) x h =
      misses_from p k x (λ i u v. h i u (omega arith)) ∙ missed_more c w y (edges_of l (p + k)) (edge_at l (p + k)) x (h (p + k) (omega arith) (omega arith))
      ∙ ap (λ (n : ℕ). all n x) (more p k)
    where
      more : (p k : ℕ) → suc (p + k) ≡ p + suc k
      more p k = omega arith

  gap_sums : (p e x : ℕ) → p ≤ e → ((i : ℕ) → p ≤ i → i < e → missed (edge_at l i).y0 (edge_at l i).y1 y ≡ true) → all p x ≡ all e x
  gap_sums p e x h g = misses_from p (e - p) x (λ i u v. g i u (omega arith)) ∙ ap (λ (n : ℕ). all n x) (rest p e h)
    where
      rest : (p e : ℕ) → p ≤ e → p + (e - p) ≡ e
      rest p e h = omega arith

  -- the sums and the marks over such a gap
  pub gap_laid : (n m p e : ℕ) → p ≤ e → ((i : ℕ) → p ≤ i → i < e → missed (edge_at l i).y0 (edge_at l i).y1 y ≡ true)
      → laid (n * 4) m l (tab m (all p)) ≡ laid (n * 4) m l (tab m (all e))
  gap_laid n m p e h g = ap (laid (n * 4) m l) (tab_same m (all p) (all e) (λ x k. gap_sums p e x h g))

  pub gap_marks : (d : List ℕ) (p e : ℕ) → p ≤ e → ((i : ℕ) → p ≤ i → i < e → missed (edge_at l i).y0 (edge_at l i).y1 y ≡ true)
      → Marked d (all p) → Marked d (all e)
  gap_marks d p e h g = mark_same d (all p) (all e) (λ x k. gap_sums p e x h g)

-- ---- the jth turn of a loop over a list of places
module _ (js : List ℕ) (n : ℕ) where
  pub reach_at : (j : ℕ) → j < length js → reach js n j ≡ get_or js j 0
  reach_at j h = ap (λ (t : Bool). cond t (get_or js j 0) n) (lt-ltb j (length js) h)

  pub reach_end : (j : ℕ) → j ≡ length js → reach js n j ≡ n
  reach_end j h = ap (λ (t : Bool). cond t (get_or js j 0) n) (le-ltb j (length js) (omega arith))
