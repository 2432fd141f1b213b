-- Turns of the loops that add the edges of a row of pixels to the sums.
use mathlib.Core.Path.{◌≡◌, refl, sym, ap, ap₂, subst, ◌∙◌}
use mathlib.Core.List.{List, [], ◌∷◌, ◌++◌}
use mathlib.Core.Bool.{Bool, true, false, cond}
use Prim.Native.Nat.{ℕ, ◌+◌, ◌*◌, ◌/◌, ◌≤◌, ◌<◌}
use native.Mathlib.Omega.{arith}
use native.Mathlib.Numerals.{add-one}
use native.Mathlib.Decide.{ℕ_discrete}
use lib.Dec.{eqb, ltb}
use borrow.Author.Tests.{ltb-true, ltb-false, ne_eqb}
use lib.IntN.{ℤ, pos, ◌+ℤ◌, +ℤ_idr}
use lib.ListN.{length, get_or, set, length-set}
use lib.Seq.{get_or-set_same, get_or-set_other}
use Rattle.lists.specs.Lists.{tab}
use Rattle.lists.proofs.Laws.{tab_length, tab_at}
use Rattle.path.specs.declared.Edge.{Edge}
use Rattle.path.specs.Stored.{edge_at, edges_of, Small}
use Rattle.coverage.specs.declared.Start.{Start}
use Rattle.coverage.specs.Winding.{sample}
use Rattle.coverage.specs.Scanline.{laid, zeros, starts, start_of, sums_at, missed, beyond, bumped, put_row, put_rows, with_sums}
use Rattle.coverage.specs.Scanline.{Low, Edges, Marked}
use Rattle.coverage.specs.Marks.{mark_rows}
use Rattle.coverage.proofs.Beyond.{beyond_more}
use Rattle.coverage.proofs.Laid.{laid_at, laid_before, laid_set, laid_again, tab_bump}
use Rattle.coverage.proofs.Laid.{tab_same}
use Rattle.coverage.proofs.Rows.{put_long}
use Rattle.coverage.proofs.Starts.{partly, partly_none, partly_more, partly_all, partly_small, missed_more}

-- ---- one number more in the sums
module _ (b m : ℕ) (l : List ℤ) (fit : b + m ≤ length l) (f : ℕ → ℤ) (r : List ℤ) (now : r ≡ laid b m l (tab m f)) where
  stands : (p : ℕ) → p < m → get_or r (b + p) (pos 0) ≡ f p
  stands p h =
      ap (λ (t : List ℤ). get_or t (b + p) (pos 0)) now
      ∙ laid_at b m l (tab m f) fit (tab_length m f) p (pos 0) h
      ∙ tab_at m f p (pos 0) h

  put_turn : (w a q : ℕ) (v : ℤ) → m ≡ w * 16 → q < 4 → (t : List ℤ) → t ≡ cond (ltb (a / 4) w) (bumped r (b + (a * 4 + q)) v) r
      → t ≡ laid b m l (tab m (λ i. f i +ℤ cond (eqb (a * 4 + q) i) v (pos 0)))
  put_turn w a q v e h t o = o ∙ by (ltb (a / 4) w) refl
    where
      by : (s : Bool) → ltb (a / 4) w ≡ s → cond s (bumped r (b + (a * 4 + q)) v) r ≡ laid b m l (tab m (λ i. f i +ℤ cond (eqb (a * 4 + q) i) v (pos 0)))
      by true p =
          let lp : a * 4 + q < m = omega (arith, ltb-true (a / 4) w p) in
          ap (λ (z : ℤ). set r (b + (a * 4 + q)) (z +ℤ v)) (stands (a * 4 + q) lp)
          ∙ ap (λ (z : List ℤ). set z (b + (a * 4 + q)) (f (a * 4 + q) +ℤ v)) now
          ∙ laid_set b m l (tab m f) fit (tab_length m f) (a * 4 + q) (f (a * 4 + q) +ℤ v) lp
          ∙ ap (laid b m l) (tab_bump m f (a * 4 + q) v lp)
      by false p =
          now
          ∙ ap (laid b m l)
          (tab_same m f (λ i. f i +ℤ cond (eqb (a * 4 + q) i) v (pos 0))
          (λ i k. sym (ap (λ (s : Bool). f i +ℤ cond s v (pos 0)) (ne_eqb (a * 4 + q) i (λ z. omega (arith, ltb-false (a / 4) w p, z))) ∙ +ℤ_idr (f i))))

mark_turn : (d t : List ℕ) (f : ℕ → ℤ) (a q : ℕ) (v : ℤ) → q < 4 → t ≡ set d (a / 4) 1 → Marked d f → Marked t (λ i. f i +ℤ cond (eqb (a * 4 + q) i) v (pos 0))
mark_turn d t f a q v h o k = record { unmarked = λ i l z. by i l z (ℕ_discrete (i / 16) (a / 4)) }
  where
    wide : length t ≡ length d
    wide = ap length o ∙ length-set d (a / 4) 1

    by : (i : ℕ) → i < length t * 16 → get_or t (i / 16) 0 ≡ 0 → Dec (i / 16 ≡ a / 4) → f i +ℤ cond (eqb (a * 4 + q) i) v (pos 0) ≡ pos 0
    by i l z (yes p) =
        let s : get_or t (i / 16) 0 ≡ 1 = ap₂ (λ (n : ℕ) (u : List ℕ). get_or u n 0) p o ∙ get_or-set_same d (a / 4) 1 0 (omega (arith, wide)) in
        absurd (omega (arith, s, z))
    by i l z (no p) =
        let s : get_or d (i / 16) 0 ≡ 0 = sym (ap (λ (u : List ℕ). get_or u (i / 16) 0) o ∙ get_or-set_other d (a / 4) (i / 16) 1 0 p) ∙ z in
        ap₂ (λ (u : ℤ) (b : Bool). u +ℤ cond b v (pos 0)) (k.unmarked i (omega (arith, wide)) s) (ne_eqb (a * 4 + q) i (λ e. omega (arith, p, e)))

pub mark_same : (d : List ℕ) (f g : ℕ → ℤ) → ((i : ℕ) → i < length d * 16 → f i ≡ g i) → Marked d f → Marked d g
mark_same d f g h k = record { unmarked = λ i l z. sym (h i l) ∙ k.unmarked i l z }

-- ---- the edges stand where they stood
module _ (n m : ℕ) (l q : List ℤ) (fit : n * 4 + m ≤ length l) (e : length q ≡ m) where
  edge_stays : (i : ℕ) → i < n → edge_at (laid (n * 4) m l q) i ≡ edge_at l i
  edge_stays i h =
      let s : (j : ℕ) → j < n * 4 → get_or (laid (n * 4) m l q) j (pos 0) ≡ get_or l j (pos 0) = λ j k. laid_before (n * 4) m l q fit e j (pos 0) k in
      rw (s (i * 4) (omega arith), s (i * 4 + 1) (omega arith), s (i * 4 + 2) (omega arith), s (i * 4 + 3) (omega arith))

  edges_stay : (i : ℕ) → i ≤ n → edges_of (laid (n * 4) m l q) i ≡ edges_of l i
  edges_stay i h = tab_same i (edge_at (laid (n * 4) m l q)) (edge_at l) (λ j k. edge_stays j (omega arith))

-- ---- an edge, for w pixels from column c on in the pixel row y
-- v is l with the sums of es and what e begins in the first r sample rows; where something begins, d has a mark
pub record Added (n w c y : ℕ) (l : List ℤ) (es : List Edge) (e : Edge) (r : ℕ) (v : List ℤ) (d : List ℕ) : Type 0 where
  pub long : length v ≡ length l
  pub wide : length d ≡ w
  pub sums : v ≡ laid (n * 4) (w * 16) l (tab (w * 16) (partly c (w * 4) y es e r))
  pub marks : Marked d (partly c (w * 4) y es e r)

module _ (n w c y : ℕ) (l : List ℤ) (fit : n * 4 + w * 16 ≤ length l) (es : List Edge) (e : Edge) where
  abbrev sums_up_to : ℕ → ℕ → ℤ
  sums_up_to r = partly c (w * 4) y es e r

  -- no number is too large to add to
  module _ (r : ℕ) (v : List ℤ) (d : List ℕ) (a : Added n w c y l es e r v d) (few : length es < 1000000) where
    pub added_low : (p : ℕ) → p < w * 16 → Low (get_or v (n * 4 + p) (pos 0))
    added_low p h =
        subst Low (sym (stands (n * 4) (w * 16) l fit (sums_up_to r) v a.sums p h)) (omega (arith, partly_small c (w * 4) y es e r p, few))

  -- one sample row more
  module _ (r : ℕ) (low : r < 4) (s : Start) (q : s ≡ start_of c (w * 4) (sample (4 * y + r)) e) where
    next : (j : ℕ) → sums_up_to r j +ℤ cond (eqb (s.at * 4 + r) j) s.by (pos 0) ≡ sums_up_to (r + 1) j
    unfolding start_of
    next j =
        ap (λ (z : Start). sums_up_to r j +ℤ cond (eqb (z.at * 4 + r) j) z.by (pos 0)) q
        ∙ partly_more c (w * 4) y es e r j low

    next_sums : (v : List ℤ) → v ≡ laid (n * 4) (w * 16) l (tab (w * 16) (sums_up_to r))
        → put_row (n * 4) w r s v ≡ laid (n * 4) (w * 16) l (tab (w * 16) (sums_up_to (r + 1)))
    unfolding put_row
    next_sums v o =
        put_turn (n * 4) (w * 16) l fit (sums_up_to r) v o w s.at r s.by refl low (put_row (n * 4) w r s v) refl
        ∙ ap (laid (n * 4) (w * 16) l)
        (tab_same (w * 16) (λ j. sums_up_to r j +ℤ cond (eqb (s.at * 4 + r) j) s.by (pos 0)) (sums_up_to (r + 1)) (λ j m. next j))

    next_marks : (d t : List ℕ) → t ≡ set d (s.at / 4) 1 → Marked d (sums_up_to r) → Marked t (sums_up_to (r + 1))
    next_marks d t p k =
        mark_same t (λ j. sums_up_to r j +ℤ cond (eqb (s.at * 4 + r) j) s.by (pos 0)) (sums_up_to (r + 1)) (λ j m. next j)
        (mark_turn d t (sums_up_to r) s.at r s.by low p k)

    added_row : (v : List ℤ) (d : List ℕ) → Added n w c y l es e r v d → Added n w c y l es e (r + 1) (put_row (n * 4) w r s v) (set d (s.at / 4) 1)
    added_row v d a = record {
      long = put_long (n * 4) w r s v ∙ a.long;
      wide = length-set d (s.at / 4) 1 ∙ a.wide;
      sums = next_sums v a.sums;
      marks = next_marks d (set d (s.at / 4) 1) refl a.marks;
    }

  -- all four
  abbrev start_in : ℕ → Start
  start_in r = start_of c (w * 4) (sample (4 * y + r)) e

  pub added_rows : (s u x t : Start) → s ≡ start_in 0 → u ≡ start_in 1 → x ≡ start_in 2 → t ≡ start_in 3 → (v z : List ℤ) (d m : List ℕ)
      → z ≡ put_rows (n * 4) (length d) s u x t v → m ≡ mark_rows (s.at / 4) (u.at / 4) (x.at / 4) (t.at / 4) d → Added n w c y l es e 0 v d
      → Added n w c y l es e 4 z m
  unfolding put_rows mark_rows
  added_rows s u x t q1 q2 q3 q4 v z d m o p a =
      subst (λ (k : List ℤ). Added n w c y l es e 4 k m) (sym (o ∙ ap (λ (k : ℕ). put_rows (n * 4) k s u x t v) a.wide))
      (subst (Added n w c y l es e 4 (put_rows (n * 4) w s u x t v)) (sym p) four)
    where
      one : Added n w c y l es e 1 (put_row (n * 4) w 0 s v) (set d (s.at / 4) 1)
      one = added_row 0 (omega arith) s q1 v d a

      two : Added n w c y l es e 2 (put_row (n * 4) w 1 u (put_row (n * 4) w 0 s v)) (set (set d (s.at / 4) 1) (u.at / 4) 1)
      two = added_row 1 (omega arith) u q2 (put_row (n * 4) w 0 s v) (set d (s.at / 4) 1) one

      three : Added n w c y l es e 3 (put_row (n * 4) w 2 x (put_row (n * 4) w 1 u (put_row (n * 4) w 0 s v)))
          (set (set (set d (s.at / 4) 1) (u.at / 4) 1) (x.at / 4) 1)
      three = added_row 2 (omega arith) x q3 (put_row (n * 4) w 1 u (put_row (n * 4) w 0 s v)) (set (set d (s.at / 4) 1) (u.at / 4) 1) two

      four : Added n w c y l es e 4 (put_rows (n * 4) w s u x t v) (mark_rows (s.at / 4) (u.at / 4) (x.at / 4) (t.at / 4) d)
      four =
          added_row 3 (omega arith) t q4 (put_row (n * 4) w 2 x (put_row (n * 4) w 1 u (put_row (n * 4) w 0 s v)))
          (set (set (set d (s.at / 4) 1) (u.at / 4) 1) (x.at / 4) 1) three

-- ---- the ith edge, for w pixels from column c on in the pixel row y
module _ (n w c y : ℕ) (l : List ℤ) (fit : n * 4 + w * 16 ≤ length l) (i : ℕ) where
  with_more : (f : ℕ → ℤ) → ((j : ℕ) → f j ≡ sums_at c (w * 4) y (edges_of l i ++ (edge_at l i ∷ [])) j)
      → laid (n * 4) (w * 16) l (tab (w * 16) f) ≡ with_sums n w c y (i + 1) l
  with_more f h =
      ap (laid (n * 4) (w * 16) l)
      (tab_same (w * 16) f (sums_at c (w * 4) y (edges_of l (i + 1))) (λ j m. h j ∙ sym (ap (λ (k : ℕ). sums_at c (w * 4) y (edges_of l k) j) (add-one i))))

  marks_more : (d : List ℕ) (f : ℕ → ℤ) → ((j : ℕ) → f j ≡ sums_at c (w * 4) y (edges_of l i ++ (edge_at l i ∷ [])) j)
      → Marked d f → Marked d (sums_at c (w * 4) y (edges_of l (i + 1)))
  marks_more d f h = mark_same d f (sums_at c (w * 4) y (edges_of l (i + 1))) (λ j m. h j
      ∙ sym (ap (λ (k : ℕ). sums_at c (w * 4) y (edges_of l k) j) (add-one i)))

  -- it misses the row
  module _ (q : missed (edge_at l i).y0 (edge_at l i).y1 y ≡ true) where
    pub miss_sums : l ≡ with_sums n w c y i l → l ≡ with_sums n w c y (i + 1) l
    miss_sums o = o ∙ with_more (sums_at c (w * 4) y (edges_of l i)) (λ j. missed_more c (w * 4) y (edges_of l i) (edge_at l i) j q)

    pub miss_marks : (d : List ℕ) → Marked d (sums_at c (w * 4) y (edges_of l i)) → Marked d (sums_at c (w * 4) y (edges_of l (i + 1)))
    miss_marks d = marks_more d (sums_at c (w * 4) y (edges_of l i)) (λ j. missed_more c (w * 4) y (edges_of l i) (edge_at l i) j q)

  -- it lies right of the window
  module _ (q : beyond (edge_at l i).x0 (edge_at l i).x1 (c + w * 4) ≡ true) where
    same : (j : ℕ) → j < w * 16 → sums_at c (w * 4) y (edges_of l i) j ≡ sums_at c (w * 4) y (edges_of l (i + 1)) j
    same j h =
        beyond_more c (w * 4) (edge_at l i) q y (edges_of l i) j (omega arith) ∙ sym (ap (λ (k : ℕ). sums_at c (w * 4) y (edges_of l k) j) (add-one i))

    pub beyond_sums : l ≡ with_sums n w c y i l → l ≡ with_sums n w c y (i + 1) l
    beyond_sums o = o ∙ ap (laid (n * 4) (w * 16) l) (tab_same (w * 16) (sums_at c (w * 4) y (edges_of l i)) (sums_at c (w * 4) y (edges_of l (i + 1))) same)

    pub beyond_marks : (d : List ℕ) → length d ≡ w → Marked d (sums_at c (w * 4) y (edges_of l i)) → Marked d (sums_at c (w * 4) y (edges_of l (i + 1)))
    beyond_marks d e = mark_same d (sums_at c (w * 4) y (edges_of l i)) (sums_at c (w * 4) y (edges_of l (i + 1))) (λ j h. same j (omega (arith, e, h)))

  -- it does not: before the first sample row, and after the last
  module _ (e : Edge) (is : e ≡ edge_at l i) (d : List ℕ) where
    pub added_none : length d ≡ w → l ≡ with_sums n w c y i l → Marked d (sums_at c (w * 4) y (edges_of l i)) → Added n w c y l (edges_of l i) e 0 l d
    added_none h o k = record {
      long = refl;
      wide = h;
      sums =
          o
          ∙ ap (laid (n * 4) (w * 16) l)
          (tab_same (w * 16) (sums_at c (w * 4) y (edges_of l i)) (partly c (w * 4) y (edges_of l i) e 0) (λ j m. partly_none c (w * 4) y (edges_of l i) e j));
      marks = mark_same d (sums_at c (w * 4) y (edges_of l i)) (partly c (w * 4) y (edges_of l i) e 0) (λ j m. partly_none c (w * 4) y (edges_of l i) e j) k;
    }

    all_rows : (j : ℕ) → partly c (w * 4) y (edges_of l i) e 4 j ≡ sums_at c (w * 4) y (edges_of l i ++ (edge_at l i ∷ [])) j
    all_rows j = partly_all c (w * 4) y (edges_of l i) e j ∙ ap (λ (f : Edge). sums_at c (w * 4) y (edges_of l i ++ (f ∷ [])) j) is

    pub added_all : (r : ℕ) (v : List ℤ) → r ≡ 4 → Added n w c y l (edges_of l i) e r v d
        → (v ≡ with_sums n w c y (i + 1) l) × Marked d (sums_at c (w * 4) y (edges_of l (i + 1)))
    added_all r v q a =
        let f = subst (λ (k : ℕ). Added n w c y l (edges_of l i) e k v d) q a in
        let g = partly c (w * 4) y (edges_of l i) e 4 in
        (f.sums ∙ with_more g all_rows, marks_more d g all_rows f.marks)

-- ---- all edges
module _ (n w c y : ℕ) (l : List ℤ) (fit : n * 4 + w * 16 ≤ length l) where
  pub no_sums : l ≡ laid (n * 4) (w * 16) l (zeros (w * 16)) → l ≡ with_sums n w c y 0 l
  unfolding starts
  no_sums o = o

  pub no_marks : (d : List ℕ) → Marked d (sums_at c (w * 4) y (edges_of l 0))
  unfolding starts
  no_marks d = record { unmarked = λ i h z. refl }

  module _ (i : ℕ) (few : i < n) (r : List ℤ) (now : r ≡ with_sums n w c y i l) where
    abbrev sums : ℕ → List ℤ
    sums k = tab (w * 16) (sums_at c (w * 4) y (edges_of l k))

    long : (k : ℕ) → length (sums k) ≡ w * 16
    long k = tab_length (w * 16) (sums_at c (w * 4) y (edges_of l k))

    edges_kept : (k : ℕ) → k ≤ n → edges_of r k ≡ edges_of l k
    edges_kept k h = ap (λ (t : List ℤ). edges_of t k) now ∙ edges_stay n (w * 16) l (sums i) fit (long i) k h

    edge_kept : (k : ℕ) → k < n → edge_at r k ≡ edge_at l k
    edge_kept k h = ap (λ (t : List ℤ). edge_at t k) now ∙ edge_stays n (w * 16) l (sums i) fit (long i) k h

    -- other sums in their place
    relaid : (k : ℕ) → k ≤ n → with_sums n w c y k r ≡ with_sums n w c y k l
    relaid k h =
        ap (λ (es : List Edge). laid (n * 4) (w * 16) r (tab (w * 16) (sums_at c (w * 4) y es))) (edges_kept k h)
        ∙ ap (λ (t : List ℤ). laid (n * 4) (w * 16) t (sums k)) now
        ∙ laid_again (n * 4) (w * 16) l (sums i) fit (long i) (sums k)

    -- what a turn asks for, and what it gives, where the counts are as many as they were
    module _ (v : ℕ) (same : v ≡ w) where
      pub turn_asks : (d : List ℕ) → Edges l n (w * 16) → length r ≡ length l → Marked d (sums_at c (w * 4) y (edges_of l i))
          → (Edges r n (v * 16)) × ((r ≡ with_sums n v c y i r) × Marked d (sums_at c (v * 4) y (edges_of r i)))
      turn_asks d a e m =
          subst (λ (u : ℕ). (Edges r n (u * 16)) × ((r ≡ with_sums n u c y i r) × Marked d (sums_at c (u * 4) y (edges_of r i)))) (sym same) (
            record { few = a.few; room = omega (arith, fit, e); small = λ k h. subst Small (sym (edge_kept k h)) (a.small k h) },
            (now ∙ sym (relaid i (omega arith)), subst (λ (es : List Edge). Marked d (sums_at c (w * 4) y es)) (sym (edges_kept i (omega arith))) m),
          )

      pub turn_sums : (t : List ℤ) → t ≡ with_sums n v c y (i + 1) r → t ≡ with_sums n w c y (i + 1) l
      turn_sums t o = o ∙ ap (λ (u : ℕ). with_sums n u c y (i + 1) r) same ∙ relaid (i + 1) (omega arith)

      pub turn_marks : (d : List ℕ) → Marked d (sums_at c (v * 4) y (edges_of r (i + 1))) → Marked d (sums_at c (w * 4) y (edges_of l (i + 1)))
      turn_marks d m =
          subst (λ (es : List Edge). Marked d (sums_at c (w * 4) y es)) (edges_kept (i + 1) (omega arith))
          (subst (λ (u : ℕ). Marked d (sums_at c (u * 4) y (edges_of r (i + 1)))) same m)
