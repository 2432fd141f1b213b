-- A row that two edges cross, one up and one down, is covered between them.
use mathlib.Core.Path.{◌≡◌, refl, sym, ap, ap₂, subst, ◌∙◌}
use mathlib.Core.List.{List}
use mathlib.Core.Bool.{Bool, true, false, cond}
use mathlib.Core.Logic.{⊎_elim}
use Prim.Native.Nat.{ℕ, zero, suc, ◌+◌, ◌-◌, ◌*◌, ◌/◌, ◌≤◌, ◌<◌, min, max}
use native.Mathlib.Omega.{arith}
use native.Mathlib.Nat.{zero-add, add-zero, add-suc}
use lib.Dec.{leb}
use borrow.Author.Tests.{leb-true, leb-false}
use lib.IntN.{ℤ, pos, negsuc, ◌+ℤ◌, +ℤ_idl, +ℤ_idr, +ℤ_comm}
use lib.ListN.{length, get_or}
use Rattle.lists.specs.Lists.{total}
use Rattle.lists.proofs.Laws.{total_same}
use Rattle.path.specs.declared.Edge.{Edge}
use Rattle.path.specs.Stored.{edge_at, edges_of}
use Rattle.coverage.specs.declared.Start.{Start}
use Rattle.coverage.specs.declared.Crossed.{Crossed}
use Rattle.coverage.specs.declared.Columns.{Columns}
use Rattle.coverage.specs.Winding.{upward, spans, weight, at_or_left, counts, winding, inside_by, one_if, tally, sample, coverage}
use Rattle.coverage.specs.Scanline.{first_column, place, start_at, start_of, start_with, missed}
use Rattle.coverage.specs.Band.{reach, Needed}
use Rattle.coverage.specs.Between.{crossed_at, count_of, Crosses, crossed_by, Opposed, Ordered}
use Rattle.coverage.specs.Between.{lesser_of, greater_of, first_of, end_of, reached, reached_all, level_at}
use Rattle.coverage.proofs.Sums.{sum_more, counts_law}
use Rattle.coverage.proofs.Starts.{missed_weight}
use Rattle.coverage.proofs.Listed.{reach_at, reach_end}
use Rattle.coverage.proofs.Steep.{Begins}

-- ---- four sample rows together
of_start : (c k : ℕ) (Y : ℤ) (e : Edge) (n : ℕ) (v : ℤ) → start_with n v ≡ start_of c k Y e → (start_at c k Y e ≡ n) × (weight Y e ≡ v)
unfolding start_of
of_start c k Y e n v q = (sym (ap (λ (z : Start). z.at) q), sym (ap (λ (z : Start). z.by) q))

pub begins_crosses : (c k y : ℕ) (e : Edge) (s : Columns) (way : ℕ) (x : Crossed) → x ≡ crossed_by way s → Begins c k y e s (count_of way) → Crosses c k y e x
unfolding crossed_by
begins_crosses c k y e s way x o b = subst (Crosses c k y e) (sym o) (record { begins = λ i. begins; counts = λ i. counted })
  where
    at : (r n : ℕ) → start_with n (count_of way) ≡ start_of c k (sample (4 * y + r)) e
        → (start_at c k (sample (4 * y + r)) e ≡ n) × (weight (sample (4 * y + r)) e ≡ count_of way)
    at r n q = of_start c k (sample (4 * y + r)) e n (count_of way) q

    begins : (r : ℕ) → r < 4 → start_at c k (sample (4 * y + r)) e ≡ crossed_at (record { way = way; a = s.a; b = s.b; c = s.c; d = s.d }) r
    begins zero h = (at 0 s.a b.0).0
    begins (suc zero) h = (at 1 s.b b.1).0
    begins (suc (suc zero)) h = (at 2 s.c b.2).0
    begins (suc (suc (suc zero))) h = (at 3 s.d b.3).0
    begins (suc (suc (suc (suc r)))) h = absurd (omega arith)

    counted : (r : ℕ) → r < 4 → weight (sample (4 * y + r)) e ≡ count_of way
    counted zero h = (at 0 s.a b.0).1
    counted (suc zero) h = (at 1 s.b b.1).1
    counted (suc (suc zero)) h = (at 2 s.c b.2).1
    counted (suc (suc (suc zero))) h = (at 3 s.d b.3).1
    counted (suc (suc (suc (suc r)))) h = absurd (omega arith)

-- ---- of all edges two count
module _ (l : List ℤ) (y r : ℕ) (h : r < 4) (X : ℤ) where
  abbrev Y : ℤ
  Y = sample (4 * y + r)

  missed_counts : (e : Edge) → missed e.y0 e.y1 y ≡ true → counts X Y e ≡ pos 0
  unfolding counts
  missed_counts e q = ap (λ (v : ℤ). cond (at_or_left e X Y) v (pos 0)) (missed_weight e y r h q) ∙ none (at_or_left e X Y)
    where
      none : (t : Bool) → cond t (pos 0) (pos 0) ≡ pos 0
      none true = refl
      none false = refl

  wind_more : (i : ℕ) → winding (edges_of l (suc i)) X Y ≡ winding (edges_of l i) X Y +ℤ counts X Y (edge_at l i)
  unfolding winding
  wind_more i = sum_more (counts X Y) (edges_of l i) (edge_at l i)

  wind_gap : (p k : ℕ) → ((i : ℕ) → p ≤ i → i < p + k → missed (edge_at l i).y0 (edge_at l i).y1 y ≡ true)
      → winding (edges_of l (p + k)) X Y ≡ winding (edges_of l p) X Y
  wind_gap p zero g = ap (λ (n : ℕ). winding (edges_of l n) X Y) (add-zero p)
  wind_gap p (suc k) g =
      ap (λ (n : ℕ). winding (edges_of l n) X Y) (add-suc p k)
      ∙ wind_more (p + k)
      ∙ ap (λ (v : ℤ). winding (edges_of l (p + k)) X Y +ℤ v) (missed_counts (edge_at l (p + k)) (g (p + k) (omega arith) (omega arith)))
      ∙ +ℤ_idr (winding (edges_of l (p + k)) X Y)
      ∙ wind_gap p k (λ i a b. g i a (omega arith))

  wind_to : (p e : ℕ) → p ≤ e → ((i : ℕ) → p ≤ i → i < e → missed (edge_at l i).y0 (edge_at l i).y1 y ≡ true)
      → winding (edges_of l e) X Y ≡ winding (edges_of l p) X Y
  wind_to p e a g = ap (λ (n : ℕ). winding (edges_of l n) X Y) (sym (rest p e a)) ∙ wind_gap p (e - p) (λ i b d. g i b (omega arith))
    where
      rest : (p e : ℕ) → p ≤ e → p + (e - p) ≡ e
      rest p e a = omega arith

  two_wind : (n : ℕ) (js : List ℕ) → Needed l n y js → length js ≡ 2
      → winding (edges_of l n) X Y ≡ counts X Y (edge_at l (get_or js 0 0)) +ℤ counts X Y (edge_at l (get_or js 1 0))
  unfolding winding
  two_wind n js k two =
      let a = get_or js 0 0 in
      let b = get_or js 1 0 in
      let first : reach js n 0 ≡ a = reach_at js n 0 (omega (arith, two)) in
      let next : reach js n 1 ≡ b = reach_at js n 1 (omega (arith, two)) in
      let end : reach js n 2 ≡ n = reach_end js n 2 (sym two) in
      let rise : a < b = subst (λ (m : ℕ). a < m) next (k.rise 0 (omega (arith, two))) in
      let below : b < n = k.below 1 (omega (arith, two)) in
      wind_to (suc b) n below (λ i u v. k.gap 1 i (omega (arith, two)) u (subst (λ (m : ℕ). i < m) (sym end) v))
      ∙ wind_more b
      ∙ ap (λ (w : ℤ). w +ℤ counts X Y (edge_at l b))
      (wind_to (suc a) b rise (λ i u v. k.gap 0 i (omega (arith, two)) u (subst (λ (m : ℕ). i < m) (sym next) v))
      ∙ wind_more a
      ∙ ap (λ (w : ℤ). w +ℤ counts X Y (edge_at l a)) (wind_to 0 a (omega arith) (λ i u v. k.first i (subst (λ (m : ℕ). i < m) (sym first) v)))
      ∙ +ℤ_idl (counts X Y (edge_at l a)))

-- ---- a sample is inside where one of the two counts and the other does not, whatever the fill rule
abbrev differ : Bool → Bool → ℕ
differ s t = cond s (cond t 0 1) (cond t 1 0)

one_inside : (non_zero s t : Bool) → one_if (inside_by non_zero (cond s (pos 1) (pos 0) +ℤ cond t (negsuc 0) (pos 0))) ≡ differ s t
one_inside true true true = refl
one_inside true true false = refl
one_inside true false true = refl
one_inside true false false = refl
one_inside false true true = refl
one_inside false true false = refl
one_inside false false true = refl
one_inside false false false = refl

exchanged : (s t : Bool) → differ t s ≡ differ s t
exchanged true true = refl
exchanged true false = refl
exchanged false true = refl
exchanged false false = refl

pub known : (a b : ℕ) → Opposed a b → (0 < a) × (0 < b)
known a b = ⊎_elim (λ q. (omega (arith, q.0), omega (arith, q.1))) (λ q. (omega (arith, q.0), omega (arith, q.1)))

opposed_inside : (non_zero s t : Bool) (a b : ℕ) → Opposed a b
    → one_if (inside_by non_zero (cond s (count_of a) (pos 0) +ℤ cond t (count_of b) (pos 0))) ≡ differ s t
opposed_inside non_zero s t a b =
    ⊎_elim (λ q. rw (q.0, q.1) (one_inside non_zero s t))
    (λ q.
    rw (q.0, q.1)
    (ap (λ (z : ℤ). one_if (inside_by non_zero z)) (+ℤ_comm (cond s (negsuc 0) (pos 0)) (cond t (pos 1) (pos 0)))
    ∙ one_inside non_zero t s
    ∙ exchanged s t))

-- it lies before the greater of their columns, and not before the lesser
module _ (a b j : ℕ) where
  before_none : a ≤ j → b ≤ j → min 1 (max a b - j) ≡ 0
  before_none h k = omega arith

  before_first : j < a → min 1 (max a b - j) ≡ 1
  before_first h = omega arith

  before_second : j < b → min 1 (max a b - j) ≡ 1
  before_second h = omega arith

  behind_first : a ≤ j → min 1 (min a b - j) ≡ 0
  behind_first h = omega arith

  behind_second : b ≤ j → min 1 (min a b - j) ≡ 0
  behind_second h = omega arith

  behind_none : j < a → j < b → min 1 (min a b - j) ≡ 1
  behind_none h k = omega arith

  between_one : differ (leb a j) (leb b j) ≡ min 1 (max a b - j) - min 1 (min a b - j)
  between_one = by (leb a j) (leb b j) refl refl
    where
      by : (s t : Bool) → leb a j ≡ s → leb b j ≡ t → differ s t ≡ min 1 (max a b - j) - min 1 (min a b - j)
      by true true p q = sym (ap₂ ◌-◌ (before_none (leb-true a j p) (leb-true b j q)) (behind_first (leb-true a j p)))
      by true false p q = sym (ap₂ ◌-◌ (before_second (leb-false b j q)) (behind_first (leb-true a j p)))
      by false true p q = sym (ap₂ ◌-◌ (before_first (leb-false a j p)) (behind_second (leb-true b j q)))
      by false false p q = sym (ap₂ ◌-◌ (before_first (leb-false a j p)) (behind_none (leb-false a j p) (leb-false b j q)))

-- ---- the four samples of a pixel in a sample row
same_four : (a b c d e f g h : ℕ) → a ≡ e → b ≡ f → c ≡ g → d ≡ h → a + b + c + d ≡ e + f + g + h
same_four a b c d e f g h i j k l = omega arith

four_ones : (d : ℕ) → min 1 d + min 1 (d - 1) + min 1 (d - 2) + min 1 (d - 3) ≡ min d 4
four_ones zero = refl
four_ones (suc zero) = refl
four_ones (suc (suc zero)) = refl
four_ones (suc (suc (suc zero))) = refl
four_ones (suc (suc (suc (suc d)))) = all d
  where
    one : (c m : ℕ) → m < c → min 1 (c - m) ≡ 1
    one c m h = omega arith

    least : (c : ℕ) → 0 < c → min 1 c ≡ 1
    least c h = omega arith

    four : (c : ℕ) → 4 ≤ c → 4 ≡ min c 4
    four c h = omega arith

    all : (d : ℕ) → let c = suc (suc (suc (suc d))) in min 1 c + min 1 (c - 1) + min 1 (c - 2) + min 1 (c - 3) ≡ min c 4
    all d =
        let c = suc (suc (suc (suc d))) in
        same_four (min 1 c) (min 1 (c - 1)) (min 1 (c - 2)) (min 1 (c - 3)) 1 1 1 1 (least c (omega arith)) (one c 1 (omega arith)) (one c 2 (omega arith))
        (one c 3 (omega arith))
        ∙ four c (omega arith)

differences : (a b c d e f g h : ℕ) → e ≤ a → f ≤ b → g ≤ c → h ≤ d → (a - e) + (b - f) + (c - g) + (d - h) ≡ a + b + c + d - (e + f + g + h)
differences a b c d e f g h i j k l = omega arith

ones_less : (a b j : ℕ) → a ≤ b → min 1 (a - j) ≤ min 1 (b - j)
ones_less a b j h = omega arith

row_reached : (l h p : ℕ) → l ≤ h → total 4 (λ m. min 1 (h - (4 * p + m)) - min 1 (l - (4 * p + m))) ≡ reached h p - reached l p
row_reached l h p o =
    same_four _ _ _ _ _ _ _ _ (zero-add _) refl refl refl
    ∙ differences (min 1 (h - (4 * p + 0))) (min 1 (h - (4 * p + 1))) (min 1 (h - (4 * p + 2))) (min 1 (h - (4 * p + 3)))
    (min 1 (l - (4 * p + 0))) (min 1 (l - (4 * p + 1))) (min 1 (l - (4 * p + 2))) (min 1 (l - (4 * p + 3)))
    (ones_less l h (4 * p + 0) o) (ones_less l h (4 * p + 1) o) (ones_less l h (4 * p + 2) o) (ones_less l h (4 * p + 3) o)
    ∙ ap₂ ◌-◌ (ones h) (ones l)
  where
    less : (c q m : ℕ) → c - (4 * q + m) ≡ c - q * 4 - m
    less c q m = omega arith

    none : (c q : ℕ) → c - (4 * q + 0) ≡ c - q * 4
    none c q = omega arith

    ones : (c : ℕ) → min 1 (c - (4 * p + 0)) + min 1 (c - (4 * p + 1)) + min 1 (c - (4 * p + 2)) + min 1 (c - (4 * p + 3)) ≡ reached c p
    ones c = rw (none c p, less c p 1, less c p 2, less c p 3) (four_ones (c - p * 4))

-- ---- k of a pixel
module _ (l : List ℤ) (n y x w : ℕ) (js : List ℕ) (non_zero : Bool) (k : Needed l n y js) (two : length js ≡ 2) (s t : Crossed)
    (cs : Crosses (4 * x) (w * 4) y (edge_at l (get_or js 0 0)) s) (ct : Crosses (4 * x) (w * 4) y (edge_at l (get_or js 1 0)) t)
    (o : Opposed s.way t.way) where
  abbrev first : Edge
  first = edge_at l (get_or js 0 0)

  abbrev second : Edge
  second = edge_at l (get_or js 1 0)

  abbrev inside : ℕ → ℕ → ℕ
  inside r j = one_if (inside_by non_zero (winding (edges_of l n) (sample (4 * x + j)) (sample (4 * y + r))))

  wound : (r j : ℕ) → r < 4 → j < w * 4
      → winding (edges_of l n) (sample (4 * x + j)) (sample (4 * y + r))
      ≡ cond (leb (crossed_at s r) j) (weight (sample (4 * y + r)) first) (pos 0) +ℤ cond (leb (crossed_at t r) j) (weight (sample (4 * y + r)) second) (pos 0)
  wound r j h i =
      let way = known s.way t.way o in
      two_wind l y r h (sample (4 * x + j)) n js k two
      ∙ ap₂ ◌+ℤ◌
      (counts_law (4 * x) (w * 4) (sample (4 * y + r)) first j i
      ∙ ap (λ (m : ℕ). cond (leb m j) (weight (sample (4 * y + r)) first) (pos 0)) (cs.begins way.0 r h))
      (counts_law (4 * x) (w * 4) (sample (4 * y + r)) second j i
      ∙ ap (λ (m : ℕ). cond (leb m j) (weight (sample (4 * y + r)) second) (pos 0)) (ct.begins way.1 r h))

  sample_inside : (r j : ℕ) → r < 4 → j < w * 4
      → inside r j ≡ min 1 (max (crossed_at s r) (crossed_at t r) - j) - min 1 (min (crossed_at s r) (crossed_at t r) - j)
  sample_inside r j h i =
      let k = known s.way t.way o in
      ap (λ (z : ℤ). one_if (inside_by non_zero z)) (wound r j h i)
      ∙ ap₂ (λ (u v : ℤ). one_if (inside_by non_zero (cond (leb (crossed_at s r) j) u (pos 0) +ℤ cond (leb (crossed_at t r) j) v (pos 0))))
      (cs.counts k.0 r h) (ct.counts k.1 r h)
      ∙ opposed_inside non_zero (leb (crossed_at s r) j) (leb (crossed_at t r) j) s.way t.way o
      ∙ between_one (crossed_at s r) (crossed_at t r) j

  row_inside : (r i : ℕ) → r < 4 → i < w
      → tally non_zero (λ j. winding (edges_of l n) (sample j) (sample (4 * y + r))) (x + i)
      ≡ reached (max (crossed_at s r) (crossed_at t r)) i - reached (min (crossed_at s r) (crossed_at t r)) i
  row_inside r i h g =
      let a = crossed_at s r in
      let b = crossed_at t r in
      total_same 4 (λ m. one_if (inside_by non_zero (winding (edges_of l n) (sample (4 * (x + i) + m)) (sample (4 * y + r)))))
      (λ m. min 1 (max a b - (4 * i + m)) - min 1 (min a b - (4 * i + m)))
      (λ m u.
      ap (λ (q : ℕ). one_if (inside_by non_zero (winding (edges_of l n) (sample q) (sample (4 * y + r))))) (further x i m)
      ∙ sample_inside r (4 * i + m) h (omega arith))
      ∙ row_reached (min a b) (max a b) i (omega arith)
    where
      further : (x i m : ℕ) → 4 * (x + i) + m ≡ 4 * x + (4 * i + m)
      further x i m = omega arith

  pub covered_between : (i : ℕ) → i < w → coverage (edges_of l n) non_zero (x + i) y ≡ level_at (lesser_of s t) (greater_of s t) i
  unfolding coverage level_at reached_all lesser_of greater_of
  covered_between i g =
      total_same 4 (λ r. tally non_zero (λ j. winding (edges_of l n) (sample j) (sample (4 * y + r))) (x + i))
      (λ r. reached (max (crossed_at s r) (crossed_at t r)) i - reached (min (crossed_at s r) (crossed_at t r)) i) (λ r h. row_inside r i h g)
      ∙ same_four _ _ _ _ _ _ _ _ (zero-add _) refl refl refl
      ∙ differences (reached (max s.a t.a) i) (reached (max s.b t.b) i) (reached (max s.c t.c) i) (reached (max s.d t.d) i)
      (reached (min s.a t.a) i) (reached (min s.b t.b) i) (reached (min s.c t.c) i) (reached (min s.d t.d) i)
      (less s.a t.a i) (less s.b t.b i) (less s.c t.c i) (less s.d t.d i)
    where
      less : (a b p : ℕ) → reached (min a b) p ≤ reached (max a b) p
      less a b p = omega arith

-- ---- pixels that are covered alike
first_numbers : (a b c d i : ℕ) → i < min (min a b) (min c d) / 4 → (4 * i + 4 ≤ a) × (4 * i + 4 ≤ b) × (4 * i + 4 ≤ c) × (4 * i + 4 ≤ d)
first_numbers a b c d i h = (omega arith, omega arith, omega arith, omega arith)

end_numbers : (a b c d i : ℕ) → (max (max a b) (max c d) + 3) / 4 ≤ i → (a ≤ 4 * i) × (b ≤ 4 * i) × (c ≤ 4 * i) × (d ≤ 4 * i)
end_numbers a b c d i h = (omega arith, omega arith, omega arith, omega arith)

-- a pixel before the first of four columns, and one behind the last
all_reached : (s : Columns) (i : ℕ) → i < first_of s → reached_all s i ≡ 16
unfolding first_of reached_all
all_reached s i h =
    let n = first_numbers s.a s.b s.c s.d i h in
    same_four (reached s.a i) (reached s.b i) (reached s.c i) (reached s.d i) 4 4 4 4 (full s.a n.0) (full s.b n.1) (full s.c n.2)
    (full s.d n.3)
  where
    full : (c : ℕ) → 4 * i + 4 ≤ c → reached c i ≡ 4
    full c g = omega arith

none_reached : (s : Columns) (i : ℕ) → end_of s ≤ i → reached_all s i ≡ 0
unfolding end_of reached_all
none_reached s i h =
    let n = end_numbers s.a s.b s.c s.d i h in
    same_four (reached s.a i) (reached s.b i) (reached s.c i) (reached s.d i) 0 0 0 0 (none s.a n.0) (none s.b n.1) (none s.c n.2)
    (none s.d n.3)
  where
    none : (c : ℕ) → c ≤ 4 * i → reached c i ≡ 0
    none c g = omega arith

firsts : (a b c d e f g h : ℕ) → a ≤ e → b ≤ f → c ≤ g → d ≤ h → min (min a b) (min c d) ≤ min (min e f) (min g h)
firsts a b c d e f g h i j k l = min_under (min_under i j) (min_under k l)
  where
    min_under : {a b c d : ℕ} → a ≤ c → b ≤ d → min a b ≤ min c d
    min_under {a} {b} {c} {d} i j = omega arith

lasts : (a b c d e f g h : ℕ) → a ≤ e → b ≤ f → c ≤ g → d ≤ h → max (max a b) (max c d) ≤ max (max e f) (max g h)
lasts a b c d e f g h i j k l = max_under (max_under i j) (max_under k l)
  where
    max_under : {a b c d : ℕ} → a ≤ c → b ≤ d → max a b ≤ max c d
    max_under {a} {b} {c} {d} i j = omega arith

pub first_within : (s : Columns) → first_of s ≤ end_of s
unfolding first_of end_of
first_within s = by s.a s.b s.c s.d
  where
    by : (a b c d : ℕ) → min (min a b) (min c d) / 4 ≤ (max (max a b) (max c d) + 3) / 4
    by a b c d =
        let h : min (min a b) (min c d) ≤ a = omega arith in
        let k : a ≤ max (max a b) (max c d) = omega arith in
        quarter _ _ h k
      where
        quarter : (m n : ℕ) {a : ℕ} → m ≤ a → a ≤ n → m / 4 ≤ (n + 3) / 4
        quarter m n h k = omega arith

module _ (lo hi : Columns) (w : ℕ) (o : Ordered lo hi (w * 4)) where
  pub ends_rise : end_of lo ≤ end_of hi
  unfolding end_of
  ends_rise = quarter _ _ (lasts lo.a lo.b lo.c lo.d hi.a hi.b hi.c hi.d o.a.0 o.b.0 o.c.0 o.d.0)
    where
      quarter : (m n : ℕ) → m ≤ n → (m + 3) / 4 ≤ (n + 3) / 4
      quarter m n h = omega arith

  pub end_within : end_of hi ≤ w
  unfolding end_of
  end_within = quarter hi.a hi.b hi.c hi.d w o.a.1 o.b.1 o.c.1 o.d.1
    where
      quarter : (a b c d w : ℕ) → a ≤ w * 4 → b ≤ w * 4 → c ≤ w * 4 → d ≤ w * 4 → (max (max a b) (max c d) + 3) / 4 ≤ w
      quarter a b c d w h i j k = omega arith

  firsts_rise : first_of lo ≤ first_of hi
  unfolding first_of
  firsts_rise = quarter _ _ (firsts lo.a lo.b lo.c lo.d hi.a hi.b hi.c hi.d o.a.0 o.b.0 o.c.0 o.d.0)
    where
      quarter : (m n : ℕ) → m ≤ n → m / 4 ≤ n / 4
      quarter m n h = omega arith

  pub level_before : (i : ℕ) → 0 ≤ i → i < first_of lo → level_at lo hi i ≡ 0
  unfolding level_at
  level_before i g h = ap₂ ◌-◌ (all_reached hi i (omega (arith, firsts_rise))) (all_reached lo i h)

  pub level_between : (i : ℕ) → end_of lo ≤ i → i < max (end_of lo) (first_of hi) → level_at lo hi i ≡ 16
  unfolding level_at
  level_between i g h = ap₂ ◌-◌ (all_reached hi i (omega arith)) (none_reached lo i g)

  pub level_behind : (i : ℕ) → end_of hi ≤ i → i < w → level_at lo hi i ≡ 0
  unfolding level_at
  level_behind i g h = ap₂ ◌-◌ (none_reached hi i g) (none_reached lo i (omega (arith, ends_rise)))

-- ---- the lesser and the greater of two columns in each sample row
pub ordered : (s t : Crossed) (k : ℕ) → ((r : ℕ) → r < 4 → crossed_at s r ≤ k) → ((r : ℕ) → r < 4 → crossed_at t r ≤ k)
    → Ordered (lesser_of s t) (greater_of s t) k
unfolding lesser_of greater_of
ordered s t k h g = record {
  a = (under s.a t.a, over s.a t.a (h 0 (omega arith)) (g 0 (omega arith)));
  b = (under s.b t.b, over s.b t.b (h 1 (omega arith)) (g 1 (omega arith)));
  c = (under s.c t.c, over s.c t.c (h 2 (omega arith)) (g 2 (omega arith)));
  d = (under s.d t.d, over s.d t.d (h 3 (omega arith)) (g 3 (omega arith)));
}
  where
    under : (a b : ℕ) → min a b ≤ max a b
    under a b = omega arith

    over : (a b : ℕ) → a ≤ k → b ≤ k → max a b ≤ k
    over a b h g = omega arith

-- an edge begins in the window, or behind its last column
place_within : (c k : ℕ) (z : ℤ) → place c k z ≤ k
unfolding place
place_within c k (negsuc m) = omega arith
place_within c k (pos m) = by (leb m c) (leb (c + k) m) refl
  where
    by : (s t : Bool) → leb (c + k) m ≡ t → cond s 0 (cond t k (m - c)) ≤ k
    by true t e = omega arith
    by false true e = omega arith
    by false false e = omega (arith, leb-false (c + k) m e)

start_within : (c k : ℕ) (Y : ℤ) (e : Edge) → start_at c k Y e ≤ k
unfolding start_at
start_within c k Y e = by (spans e Y)
  where
    by : (t : Bool) → cond t (place c k (first_column (upward e) Y)) k ≤ k
    by true = place_within c k (first_column (upward e) Y)
    by false = omega arith

pub crossed_within : (c k y : ℕ) (e : Edge) (s : Crossed) → Crosses c k y e s → 0 < s.way → (r : ℕ) → r < 4 → crossed_at s r ≤ k
crossed_within c k y e s o i r h = subst (λ (m : ℕ). m ≤ k) (o.begins i r h) (start_within c k (sample (4 * y + r)) e)
