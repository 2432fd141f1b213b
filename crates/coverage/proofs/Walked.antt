-- A walk along the marked pixels of a window: what stands in the sums, and the runs stored.
use mathlib.Core.Path.{◌≡◌, refl, sym, ap, subst, ◌∙◌}
use mathlib.Core.List.{List, ◌++◌, append_assoc}
use mathlib.Core.Bool.{Bool, true, false}
use Prim.Native.Nat.{ℕ, zero, suc, ◌+◌, ◌*◌, ◌-◌, ◌≤◌, ◌<◌}
use native.Mathlib.Omega.{arith}
use native.Mathlib.Nat.{add-zero}
use native.Mathlib.Decide.{ℕ_discrete}
use lib.IntN.{ℤ, pos}
use lib.ListN.{length, get_or, replicate}
use Rattle.lists.specs.Lists.{tab, over}
use Rattle.lists.proofs.Laws.{tab_length, over_part, over_all}
use Rattle.runs.specs.Runs.{expand, Runs}
use Rattle.runs.proofs.Expand.{tab_run}
use Rattle.coverage.specs.declared.Cell.{Cell}
use Rattle.coverage.specs.Winding.{inside_by, one_if}
use Rattle.coverage.specs.Scanline.{at, laid, zeros, running, row_of, full_of, cell_from, cell_after, pixel_of, Marked}
use Rattle.coverage.specs.Marks.{Blank}
use Rattle.coverage.proofs.Tally.{tally_le}
use Rattle.coverage.proofs.Zeros.{zeros_join}
use Rattle.coverage.proofs.Cells.{Stands, stands_first, next_stands, next_count, numbers_stand, turn_cell, turn_sums}

-- ---- no k is above 16
pub pixel_le : (non_zero : Bool) (s : List ℤ) (p : ℕ) → pixel_of non_zero s p ≤ 16
pixel_le non_zero s p =
    omega (
      arith,
      tally_le non_zero (λ j. running (row_of s 0) (suc j)) p,
      tally_le non_zero (λ j. running (row_of s 1) (suc j)) p,
      tally_le non_zero (λ j. running (row_of s 2) (suc j)) p,
      tally_le non_zero (λ j. running (row_of s 3) (suc j)) p,
    )

pub full_le : {non_zero : Bool} {s : List ℤ} {p : ℕ} {z : Cell} → Stands non_zero s p z → z.full ≤ 16
unfolding full_of
full_le {non_zero} {s} {p} {z} st =
    omega (
      arith,
      st.full,
      small (inside_by non_zero z.a),
      small (inside_by non_zero z.b),
      small (inside_by non_zero z.c),
      small (inside_by non_zero z.d),
    )
  where
    small : (b : Bool) → one_if b ≤ 1
    small true = omega arith
    small false = omega arith

-- ---- pixels in which nothing begins
module _ (non_zero : Bool) (s : List ℤ) (m : List ℕ) (marks : Marked m (at s)) (fit : length s ≡ length m * 16) (z : Cell) where
  blank_here : (p : ℕ) → p < length m → get_or m p 0 ≡ 0 → Stands non_zero s p z
      → Stands non_zero s (p + 1) z × (pixel_of non_zero s p ≡ z.full) × (over (zeros (p * 16)) s ≡ over (zeros ((p + 1) * 16)) s)
  blank_here p h q st =
      let t = turn_cell s (over (zeros (p * 16)) s) p refl m marks h 0 (sym q) non_zero z (cell_after z) st refl in
      let u = next_stands non_zero s p z st (cell_after z) t in (
        record { a = u.a; b = u.b; c = u.c; d = u.d; full = u.full },
        sym (next_count non_zero s p z st (cell_after z) t),
        turn_sums s (over (zeros (p * 16)) s) p refl m marks h 0 (sym q) (omega arith) (over (zeros (p * 16)) s) refl,
      )

  -- from p to before e: the pixel before goes on, all have its k, and the sums are 0 already
  abbrev Passed : ℕ → ℕ → Type 0
  Passed p e = Stands non_zero s e z × ((i : ℕ) → p ≤ i → i < e → pixel_of non_zero s i ≡ z.full) × (over (zeros (p * 16)) s ≡ over (zeros (e * 16)) s)

  blank_from : (p k : ℕ) → p + k ≤ length m → ((i : ℕ) → p ≤ i → i < p + k → get_or m i 0 ≡ 0) → Stands non_zero s p z → Passed p (p + k)
  blank_from p zero h b st = subst (Passed p) (none p) (st, λ i l g. absurd (omega (arith, l, g)), refl)
    where
      none : (p : ℕ) → p ≡ p + 0
      none p = omega arith
  blank_from p (suc k) h b st =
      let r = blank_from p k (omega arith) (λ i l g. b i l (omega arith)) st in
      let t = blank_here (p + k) (omega arith) (b (p + k) (omega arith) (omega arith)) r.0 in
      subst (Passed p) (more p k) (t.0, λ i l g. by i l g (ℕ_discrete i (p + k)) r.1 t.1, r.2 ∙ t.2)
    where
      more : (p k : ℕ) → p + k + 1 ≡ p + suc k
      more p k = omega arith

      by : (i : ℕ) → p ≤ i → i < p + k + 1 → Dec (i ≡ p + k) → ((i : ℕ) → p ≤ i → i < p + k → pixel_of non_zero s i ≡ z.full)
          → pixel_of non_zero s (p + k) ≡ z.full → pixel_of non_zero s i ≡ z.full
      by i l g (yes e) f q = ap (pixel_of non_zero s) e ∙ q
      by i l g (no e) f q = f i l (omega arith)

  blank_run : (p e : ℕ) → Blank m p e → Stands non_zero s p z → Passed p e
  blank_run p e b st =
      subst (Passed p) (rest p e b.low) (blank_from p (e - p) (omega (arith, b.low, b.high)) (λ i a g. b.none i a (omega (arith, b.low))) st)
    where
      rest : (p e : ℕ) → p ≤ e → p + (e - p) ≡ e
      rest p e l = omega arith

-- ---- the walk has come to pixel p of a window whose first pixel is pixel b of the row
pub record Walked (non_zero : Bool) (s : List ℤ) (b p : ℕ) (z : Cell) (sums : List ℤ) (rs : List ℕ) (n : ℕ) : Type 0 where
  pub stands : Stands non_zero s p z
  pub zeroed : sums ≡ over (zeros (p * 16)) s
  pub runs : Runs rs n (b + p)

-- the n runs end with k of the window's first p pixels if the first n₀ of rs₀ did with that of its first p₀
abbrev pub Longer : (ℕ → ℕ) → List ℕ → ℕ → ℕ → List ℕ → ℕ → ℕ → Type 0
Longer f rs₀ n₀ p₀ rs n p = (h : List ℕ) → expand rs₀ n₀ ≡ h ++ tab p₀ f → expand rs n ≡ h ++ tab p f

pub longer_run : (f : ℕ → ℕ) (rs rs' : List ℕ) (n n' p e d k : ℕ) → p ≤ e → d ≡ e - p → ((i : ℕ) → p ≤ i → i < e → f i ≡ k)
    → expand rs' n' ≡ expand rs n ++ replicate d k → Longer f rs n p rs' n' e
longer_run f rs rs' n n' p e d k l w same x h q =
    x ∙ ap (λ (t : List ℕ). t ++ replicate d k) q ∙ append_assoc h (tab p f) (replicate d k)
    ∙ ap (λ (t : List ℕ). h ++ t) (ap (λ (j : ℕ). tab p f ++ replicate j k) w ∙ tab_run f p e k l same)

-- before the first pixel nothing has begun
abbrev pub no_cell : Cell
no_cell = record { a = pos 0; b = pos 0; c = pos 0; d = pos 0; full = 0; count = 0 }

module _ (non_zero : Bool) (s : List ℤ) (m : List ℕ) (b : ℕ) where
  pub walked_first : (rs : List ℕ) (n : ℕ) → Runs rs n b → Walked non_zero s b 0 no_cell s rs n
  walked_first rs n r = record { stands = stands_first non_zero s; zeroed = refl; runs = subst (Runs rs n) (sym (add-zero b)) r }

  module _ (p n : ℕ) (z : Cell) (sums : List ℤ) (rs : List ℕ) (w : Walked non_zero s b p z sums rs n) (fit : length s ≡ length m * 16) where
    -- to the next mark
    pub walked_blank : Marked m (at s) → (e n' d : ℕ) (rs' : List ℕ) → Blank m p e → Runs rs' n' (b + e) → d ≡ e - p
        → expand rs' n' ≡ expand rs n ++ replicate d z.full
        → Walked non_zero s b e z sums rs' n' × Longer (pixel_of non_zero s) rs n p rs' n' e
    walked_blank k e n' d rs' blank r g x =
        let t = blank_run non_zero s m k fit z p e blank w.stands in (
          record { stands = t.0; zeroed = w.zeroed ∙ t.2; runs = r },
          longer_run (pixel_of non_zero s) rs rs' n n' p e d z.full blank.low g t.1 x,
        )

    -- a pixel with its 16 numbers
    module _ (t : Cell) (here : p < length m) (is : t ≡ cell_from non_zero z (λ j. at sums (p * 16 + j))) where
      cell_is : t ≡ cell_from non_zero z (λ j. at s (p * 16 + j))
      cell_is = is ∙ ap (cell_from non_zero z) (λ i j. numbers_stand s sums p w.zeroed j i)

      pub cell_count : t.count ≡ pixel_of non_zero s p
      cell_count = next_count non_zero s p z w.stands t cell_is

      pub cell_full : t.full ≤ 16
      cell_full = full_le (next_stands non_zero s p z w.stands t cell_is)

      pub walked_cell : (sums' : List ℤ) → sums' ≡ laid (p * 16) 16 sums (zeros 16) → (n' d : ℕ) (rs' : List ℕ) → Runs rs' n' (b + (p + 1)) → d ≡ 1
          → expand rs' n' ≡ expand rs n ++ replicate d t.count
          → Walked non_zero s b (p + 1) t sums' rs' n' × Longer (pixel_of non_zero s) rs n p rs' n' (p + 1)
      walked_cell sums' o n' d rs' r g x = (
        record {
          stands = next_stands non_zero s p z w.stands t cell_is;
          zeroed =
              o ∙ ap (λ (u : List ℤ). laid (p * 16) 16 u (zeros 16)) w.zeroed
              ∙ over_part (zeros (p * 16)) s (zeros 16) (p * 16) 16 (tab_length (p * 16) (λ j. pos 0)) (tab_length 16 (λ j. pos 0)) (omega arith)
              ∙ ap (λ (u : List ℤ). over u s) (zeros_join (p * 16) 16 ∙ ap zeros (next p));
          runs = r;
        },
        longer_run (pixel_of non_zero s) rs rs' n n' p (p + 1) d t.count (omega arith) (omega (arith, g))
            (λ i l k. sym (cell_count ∙ ap (pixel_of non_zero s) (only i l k))) x,
      )
        where
          next : (p : ℕ) → p * 16 + 16 ≡ (p + 1) * 16
          next p = omega arith

          only : (i : ℕ) → p ≤ i → i < p + 1 → p ≡ i
          only i l g = omega arith

    -- the walk has come to the window's end
    pub walked_sums : p ≡ length m → sums ≡ zeros (length s)
    walked_sums end =
        let q : p * 16 ≡ length s = omega arith in
        w.zeroed ∙ over_all (zeros (p * 16)) s (tab_length (p * 16) (λ j. pos 0) ∙ q) ∙ ap zeros q
