-- What runs expand to, one more run, a longer run.
use mathlib.Core.Path.{◌≡◌, refl, sym, ap, ap₂, subst, ◌∙◌}
use mathlib.Core.List.{List, ◌++◌, append_assoc}
use mathlib.Core.Logic.{⊎_elim}
use mathlib.Core.Bool.{Bool, true, false}
use Prim.Native.Nat.{ℕ, zero, suc, ◌+◌, ◌-◌, ◌*◌, ◌/◌, ◌%◌, ◌≤◌, ◌<◌}
use native.Mathlib.Nat.{eq-or-lt_of_le, le_of_suc-le-suc, not-suc-le-zero}
use native.Mathlib.Omega.{arith}
use native.Mathlib.Decide.{ℕ_discrete}
use lib.ListN.{length, get_or, set, take, drop, replicate, length-append, length-replicate, get_or-replicate, replicate-append-replicate, get_or-append}
use lib.Seq.{get_or-append-add, get_or-set_same, get_or-set_other}
use lib.Dec.{ltb}
use borrow.Author.Count.{below_more}
use borrow.Author.Tests.{ltb-true, ltb-false}
use Rattle.lists.specs.Lists.{tab, over}
use Rattle.lists.proofs.Laws.{upto_same, upto_more, tab_length, tab_at, tab_ext, over_part}
use Rattle.runs.specs.Runs.{end_of, start_of, level_of, expand, Runs}

one_more : (j : ℕ) → j + 1 ≡ suc j
one_more j = omega arith

module _ (runs : List ℕ) (n : ℕ) (rises : (j : ℕ) → j < n → start_of runs j < end_of runs j) where
  pub starts_rise : (i j : ℕ) → i ≤ j → j ≤ n → start_of runs i ≤ start_of runs j
  starts_rise i zero a b = let e : i ≡ 0 = omega arith in rw e (omega arith)
  starts_rise i (suc j) a b =
      ⊎_elim (λ e. rw e (omega arith))
      (λ l. omega (arith, starts_rise i j (le_of_suc-le-suc l) (omega arith), rises j (omega arith)))
      (eq-or-lt_of_le a)

  starts_few : (j : ℕ) → j ≤ n → j ≤ start_of runs j
  starts_few zero h = omega arith
  starts_few (suc j) h = omega (arith, starts_few j (omega arith), rises j (omega arith))

  expand_length : (m : ℕ) → m ≤ n → length (expand runs m) ≡ start_of runs m
  expand_length zero h = refl
  expand_length (suc m) h =
      length-append (expand runs m) (replicate (end_of runs m - start_of runs m) (level_of runs m))
      ∙ ap₂ (λ (a b : ℕ). a + b) (expand_length m (omega arith)) (length-replicate (end_of runs m - start_of runs m) (level_of runs m))
      ∙ rest (start_of runs m) (end_of runs m) (rises m (omega arith))
    where
      rest : (a b : ℕ) → a < b → a + (b - a) ≡ b
      rest a b h = omega arith

  -- k of a pixel of run j
  expand_at : (m : ℕ) → m ≤ n → (j i : ℕ) → j < m → start_of runs j ≤ i → i < end_of runs j → get_or (expand runs m) i 0 ≡ level_of runs j
  expand_at zero h j i l a b = absurd (not-suc-le-zero l)
  expand_at (suc m) h j i l a b = ⊎_elim here (λ k. before k (expand_at m (omega arith) j i k a b)) (eq-or-lt_of_le (le_of_suc-le-suc l))
    where
      here : j ≡ m → get_or (expand runs (suc m)) i 0 ≡ level_of runs j
      here e =
          ap (λ (k : ℕ). get_or (expand runs (suc m)) k 0) at
          ∙ get_or-append-add (expand runs m) (replicate (end_of runs m - start_of runs m) (level_of runs m)) (i - start_of runs m) 0
          ∙ get_or-replicate (end_of runs m - start_of runs m) (i - start_of runs m) (level_of runs m) 0 (within (start_of runs m) (end_of runs m) low high)
          ∙ ap (λ (k : ℕ). level_of runs k) (sym e)
        where
          low : start_of runs m ≤ i
          low = subst (λ (k : ℕ). start_of runs k ≤ i) e a

          high : i < end_of runs m
          high = subst (λ (k : ℕ). i < end_of runs k) e b

          at : i ≡ length (expand runs m) + (i - start_of runs m)
          at = omega (arith, low, expand_length m (omega arith))

          within : (s t : ℕ) → s ≤ i → i < t → i - s < t - s
          within s t p q = omega arith

      before : j < m → get_or (expand runs m) i 0 ≡ level_of runs j → get_or (expand runs (suc m)) i 0 ≡ level_of runs j
      before k q =
          get_or-append (expand runs m) (replicate (end_of runs m - start_of runs m) (level_of runs m)) 0 i
          (omega (arith, b, starts_rise (suc j) m (omega arith) (omega arith), expand_length m (omega arith)))
          ∙ q

  -- the first m runs are the beginning
  expand_first : (k : ℕ) → k ≤ n → (m i : ℕ) → m ≤ k → i < start_of runs m → get_or (expand runs k) i 0 ≡ get_or (expand runs m) i 0
  expand_first zero h m i a b = let e : m ≡ 0 = omega arith in rw e refl
  expand_first (suc k) h m i a b =
      ⊎_elim (λ e. rw e refl)
      (λ l.
      get_or-append (expand runs k) (replicate (end_of runs k - start_of runs k) (level_of runs k)) 0 i
      (omega (arith, b, starts_rise m k (le_of_suc-le-suc l) (omega arith), expand_length k (omega arith)))
      ∙ expand_first k (omega arith) m i (le_of_suc-le-suc l) b)
      (eq-or-lt_of_le a)

-- two lists that agree on the first n runs
starts_same : (r s : List ℕ) (n : ℕ) → ((j : ℕ) → j < n → get_or r j 0 ≡ get_or s j 0) → (j : ℕ) → j ≤ n → start_of r j ≡ start_of s j
starts_same r s n h zero l = refl
starts_same r s n h (suc j) l = ap (λ (x : ℕ). x / 32) (h j (omega arith))

expand_same : (r s : List ℕ) (n : ℕ) → ((j : ℕ) → j < n → get_or r j 0 ≡ get_or s j 0) → expand r n ≡ expand s n
expand_same r s n h =
    upto_same n (λ j. replicate (end_of r j - start_of r j) (level_of r j)) (λ j. replicate (end_of s j - start_of s j) (level_of s j))
    (λ j l. rw (h j l, starts_same r s n h j (omega arith)))

module _ (runs : List ℕ) (n w : ℕ) (r : Runs runs n w) where
  pub runs_length : length (expand runs n) ≡ w
  runs_length = expand_length runs n r.rises n (omega arith) ∙ r.last

  pub runs_few : n ≤ w
  runs_few = omega (arith, starts_few runs n r.rises n (omega arith), r.last)

  pub runs_at : (j i : ℕ) → j < n → start_of runs j ≤ i → i < end_of runs j → get_or (expand runs n) i 0 ≡ level_of runs j
  runs_at j i h = expand_at runs n r.rises n (omega arith) j i h

  pub runs_within : (j : ℕ) → j < n → end_of runs j ≤ w
  runs_within j h = omega (arith, starts_rise runs n r.rises (suc j) n (omega arith) (omega arith), r.last)

  pub first_length : (j : ℕ) → j ≤ n → length (expand runs j) ≡ start_of runs j
  first_length j h = expand_length runs n r.rises j h

  pub first_within : (m : ℕ) → m ≤ n → start_of runs m ≤ w
  first_within m h = omega (arith, starts_rise runs n r.rises m n h (omega arith), r.last)

  -- runs with one k, one behind another
  pub level_at_lem : (k j m : ℕ) → j ≤ m → m ≤ n → ((l : ℕ) → j ≤ l → l < m → level_of runs l ≡ k)
      → (i : ℕ) → start_of runs j ≤ i → i < start_of runs m → get_or (expand runs n) i 0 ≡ k
  level_at_lem k j zero g h u i a b = absurd (not-suc-le-zero b)
  level_at_lem k j (suc m) g h u i a b =
      ⊎_elim none
      (λ l.
      by (le_of_suc-le-suc l) (level_at_lem k j m (le_of_suc-le-suc l) (omega arith) (λ x p q. u x p (omega arith)) i a)
      (ltb i (start_of runs m)) refl)
      (eq-or-lt_of_le g)
    where
      none : j ≡ suc m → get_or (expand runs n) i 0 ≡ k
      none e = absurd (omega (arith, subst (λ (x : ℕ). start_of runs x ≤ i) e a, b))

      by : j ≤ m → (i < start_of runs m → get_or (expand runs n) i 0 ≡ k) → (t : Bool) → ltb i (start_of runs m) ≡ t → get_or (expand runs n) i 0 ≡ k
      by l before true e = before (ltb-true i (start_of runs m) e)
      by l before false e = runs_at m i h (omega (arith, ltb-false i (start_of runs m) e)) b ∙ u m l (omega arith)

  -- run j laid after those before it, into a row d of w k's: the part that is lent for it and given back
  pub laid_run : (j : ℕ) → j < n → (s d q : List ℕ) → length d ≡ w → s ≡ over (expand runs j) d
      → q ≡ replicate (end_of runs j - start_of runs j) (level_of runs j)
      → take (start_of runs j) s ++ (q ++ drop (end_of runs j - start_of runs j) (drop (start_of runs j) s)) ≡ over (expand runs (j + 1)) d
  laid_run j h s d q l o g =
      ap (λ (t : List ℕ). take (start_of runs j) t ++ (q ++ drop (end_of runs j - start_of runs j) (drop (start_of runs j) t))) o
      ∙ over_part (expand runs j) d q (start_of runs j) (end_of runs j - start_of runs j) (first_length j (omega arith))
      (ap length g ∙ length-replicate (end_of runs j - start_of runs j) (level_of runs j)) (omega (arith, r.rises j h, runs_within j h))
      ∙ ap (λ (t : List ℕ). over t d)
      (ap (λ (t : List ℕ). expand runs j ++ t) g
      ∙ sym (upto_more j (λ i. replicate (end_of runs i - start_of runs i) (level_of runs i))))

  -- a run of its own, in the place of any number
  pub push_runs : (e k : ℕ) → k < 32 → w < e → n < length runs → Runs (set runs n (e * 32 + k)) (n + 1) e
  push_runs e k g h l = record {
    rises = below_more (λ j. start_of (set runs n (e * 32 + k)) j < end_of (set runs n (e * 32 + k)) j) n old new;
    last = subst (λ (j : ℕ). start_of (set runs n (e * 32 + k)) j ≡ e) (sym (one_more n)) (rw (get_or-set_same runs n (e * 32 + k) 0 l) (omega arith));
  }
    where
      kept : (j : ℕ) → j < n → get_or (set runs n (e * 32 + k)) j 0 ≡ get_or runs j 0
      kept j b = get_or-set_other runs n j (e * 32 + k) 0 (λ q. omega (arith, q))

      old : (j : ℕ) → j < n → start_of (set runs n (e * 32 + k)) j < end_of (set runs n (e * 32 + k)) j
      old j b = rw (starts_same (set runs n (e * 32 + k)) runs n kept j (omega arith), kept j b) (r.rises j b)

      new : start_of (set runs n (e * 32 + k)) n < end_of (set runs n (e * 32 + k)) n
      new = rw (starts_same (set runs n (e * 32 + k)) runs n kept n (omega arith), get_or-set_same runs n (e * 32 + k) 0 l, r.last) (omega arith)

  pub push_expand : (e k : ℕ) → k < 32 → n < length runs → expand (set runs n (e * 32 + k)) (n + 1) ≡ expand runs n ++ replicate (e - w) k
  push_expand e k g l =
      upto_more n (λ j. replicate (end_of (set runs n (e * 32 + k)) j - start_of (set runs n (e * 32 + k)) j) (level_of (set runs n (e * 32 + k)) j))
      ∙ ap₂ (λ (a b : List ℕ). a ++ b) (expand_same (set runs n (e * 32 + k)) runs n kept) run
    where
      kept : (j : ℕ) → j < n → get_or (set runs n (e * 32 + k)) j 0 ≡ get_or runs j 0
      kept j b = get_or-set_other runs n j (e * 32 + k) 0 (λ q. omega (arith, q))

      halves : (x s : ℕ) → x ≡ e * 32 + k → s ≡ w → replicate (x / 32 - s) (x % 32) ≡ replicate (e - w) k
      halves x s a b =
          let c : x / 32 - s ≡ e - w = omega arith in
          let d : x % 32 ≡ k = omega arith in
          ap₂ (λ (m l : ℕ). replicate m l) c d

      run : replicate (end_of (set runs n (e * 32 + k)) n - start_of (set runs n (e * 32 + k)) n) (level_of (set runs n (e * 32 + k)) n) ≡ replicate (e - w) k
      run =
          halves (get_or (set runs n (e * 32 + k)) n 0) (start_of (set runs n (e * 32 + k)) n) (get_or-set_same runs n (e * 32 + k) 0 l)
          (starts_same (set runs n (e * 32 + k)) runs n kept n (omega arith) ∙ r.last)

-- the last of n + 1 runs taken away
module _ (runs : List ℕ) (n w : ℕ) (r : Runs runs (n + 1) w) where
  shorter : Runs runs n (start_of runs n)
  shorter = record {
    rises = λ j l. r.rises j (omega arith);
    last = refl;
  }

  end : end_of runs n ≡ w
  end = subst (λ (j : ℕ). start_of runs j ≡ w) (one_more n) r.last

  -- the last run, made longer
  pub merge_expand : (e k : ℕ) → k < 32 → w < e → n < length runs → level_of runs n ≡ k
      → expand (set runs n (e * 32 + k)) (n + 1) ≡ expand runs (n + 1) ++ replicate (e - w) k
  merge_expand e k g h l q =
      push_expand runs n (start_of runs n) shorter e k g l
      ∙ ap (λ (a : ℕ). expand runs n ++ replicate a k) (sum (start_of runs n) (omega (arith, r.rises n (omega arith), end)))
      ∙ ap (λ (t : List ℕ). expand runs n ++ t) (sym (replicate-append-replicate (w - start_of runs n) (e - w) k))
      ∙ sym (append_assoc (expand runs n) (replicate (w - start_of runs n) k) (replicate (e - w) k))
      ∙ ap (λ (t : List ℕ). t ++ replicate (e - w) k) (sym whole)
    where
      sum : (a : ℕ) → a < w → e - a ≡ (w - a) + (e - w)
      sum a b = omega arith

      whole : expand runs (n + 1) ≡ expand runs n ++ replicate (w - start_of runs n) k
      whole = upto_more n (λ j. replicate (end_of runs j - start_of runs j) (level_of runs j)) ∙ rw (end, q)

  pub merge_runs : (e k : ℕ) → k < 32 → w < e → n < length runs → Runs (set runs n (e * 32 + k)) (n + 1) e
  merge_runs e k g h l = push_runs runs n (start_of runs n) shorter e k g (omega (arith, r.rises n (omega arith), end)) l

-- k's that are equal, after those of a table
pub tab_run : (f : ℕ → ℕ) (p e k : ℕ) → p ≤ e → ((i : ℕ) → p ≤ i → i < e → f i ≡ k) → tab p f ++ replicate (e - p) k ≡ tab e f
tab_run f p e k h q =
    tab_ext 0 (tab p f ++ replicate (e - p) k) e f
    (length-append (tab p f) (replicate (e - p) k) ∙ ap₂ (λ (a b : ℕ). a + b) (tab_length p f) (length-replicate (e - p) k) ∙ omega arith)
    (λ i l. by i l (ℕ_discrete (i - p + p) i))
  where
    by : (i : ℕ) → i < e → Dec (i - p + p ≡ i) → get_or (tab p f ++ replicate (e - p) k) i 0 ≡ f i
    by i l (yes a) =
        ap (λ (j : ℕ). get_or (tab p f ++ replicate (e - p) k) j 0) (omega (arith, tab_length p f))
        ∙ get_or-append-add (tab p f) (replicate (e - p) k) (i - p) 0 ∙ get_or-replicate (e - p) (i - p) k 0 (omega arith) ∙ sym (q i (omega arith) l)
    by i l (no a) =
        let b : i < p = omega arith in
        get_or-append (tab p f) (replicate (e - p) k) 0 i (omega (arith, tab_length p f)) ∙ tab_at p f i 0 b
