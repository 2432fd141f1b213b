-- Sums that are added up edge by edge, and k by 16 of them.
use mathlib.Core.Path.{◌≡◌, refl, sym, ap, subst, ◌∙◌}
use mathlib.Core.List.{List, [], ◌∷◌, ◌++◌}
use mathlib.Core.Bool.{Bool}
use Prim.Native.Nat.{ℕ, zero, suc, ◌+◌, ◌*◌, ◌/◌, ◌%◌, ◌≤◌, ◌<◌}
use native.Mathlib.Nat.{not-suc-le-zero}
use native.Mathlib.Omega.{arith}
use lib.ListN.{length, get_or, replicate}
use lib.IntN.{ℤ, pos, negsuc, nat_abs, ◌+ℤ◌, +ℤ_assoc, +ℤ_idl, +ℤ_idr}
use Rattle.lists.specs.Lists.{tab, over, total}
use Rattle.lists.proofs.Laws.{tab_at, tab_all, tab_ext, tab_length, upto_same, total_same}
use Rattle.fixed.proofs.Within.{Within, within_add}
use Rattle.path.specs.declared.Edge.{Edge}
use Rattle.coverage.specs.Winding.{counts, winding, inside_by, one_if, sample, coverage}
use Rattle.coverage.proofs.Sums.{sum_append, sum_small}
use Rattle.plain.proofs.Wound.{counts_small}
use Rattle.reason.specs.Summed.{winding_at, wound, Sums}

winding_append : (es fs : List Edge) (X Y : ℤ) → winding (es ++ fs) X Y ≡ winding es X Y +ℤ winding fs X Y
unfolding winding
winding_append es fs X Y = sum_append (counts X Y) es fs

winding_small : (es : List Edge) (X Y : ℤ) → nat_abs (winding es X Y) ≤ length es
unfolding winding
winding_small es X Y = sum_small (counts X Y) es (counts_small X Y)

-- of one edge
pub winding_one : (e : Edge) (X Y : ℤ) → counts X Y e ≡ winding (e ∷ []) X Y
unfolding winding
winding_one e X Y = sym (+ℤ_idr (counts X Y e))

zero_is : (z : ℤ) → nat_abs z ≤ 0 → z ≡ pos 0
zero_is (pos zero) h = refl
zero_is (pos (suc n)) h = absurd (not-suc-le-zero h)
zero_is (negsuc n) h = absurd (not-suc-le-zero h)

-- zeros to begin with
zero_at : (n j : ℕ) → nat_abs (get_or (replicate n (pos 0)) j (pos 0)) ≤ 0
zero_at zero j = omega arith
zero_at (suc n) zero = omega arith
zero_at (suc n) (suc j) = zero_at n j

pub zeros_summed : Sums (replicate 16 (pos 0)) 0
zeros_summed = record { room = refl; small = λ j l. zero_at 16 j }

-- 16 samples, row by row
by_rows : (f : ℕ → ℕ → ℕ) → total 16 (λ j. f (j % 4) (j / 4)) ≡ total 4 (λ r. total 4 (λ m. f m r))
by_rows f = omega arith

module _ (x y : ℕ) (s : List ℤ) where
  pub wound_at : (es : List Edge) (j : ℕ) → j < 16 → get_or (wound x y s es) j (pos 0) ≡ get_or s j (pos 0) +ℤ winding_at x y es j
  unfolding wound
  wound_at es j l = tab_at 16 (λ i. get_or s i (pos 0) +ℤ winding_at x y es i) j (pos 0) l

  -- a loop that adds them has come to its end
  pub wound_all : (es : List Edge) (q : List ℤ) (j : ℕ) → q ≡ over (tab j (λ i. get_or s i (pos 0) +ℤ winding_at x y es i)) s → j ≡ 16 → length s ≡ 16
      → q ≡ wound x y s es
  unfolding wound
  wound_all es q j o e l = tab_all (λ i. get_or s i (pos 0) +ℤ winding_at x y es i) q s j 16 o e (sym l)

  pub wound_none : length s ≡ 16 → s ≡ wound x y s []
  unfolding wound winding
  wound_none e = tab_ext (pos 0) s 16 (λ j. get_or s j (pos 0) +ℤ pos 0) e (λ k l. sym (+ℤ_idr (get_or s k (pos 0))))

  pub wound_append : (es fs : List Edge) → wound x y (wound x y s es) fs ≡ wound x y s (es ++ fs)
  unfolding wound
  wound_append es fs =
      upto_same 16 _ _
      (λ j l. ap (λ (z : ℤ). (z +ℤ winding_at x y fs j) ∷ []) (tab_at 16 (λ i. get_or s i (pos 0) +ℤ winding_at x y es i) j (pos 0) l)
      ∙ ap (λ (z : ℤ). z ∷ [])
      (+ℤ_assoc (get_or s j (pos 0)) (winding_at x y es j) (winding_at x y fs j)
      ∙ ap (λ (z : ℤ). get_or s j (pos 0) +ℤ z) (sym (winding_append es fs (sample (4 * x + j % 4)) (sample (4 * y + j / 4))))))

  wound_sums : (es : List Edge) (n : ℕ) → Sums s n → Sums (wound x y s es) (n + length es)
  unfolding wound
  wound_sums es n h = record {
    room = tab_length 16 (λ i. get_or s i (pos 0) +ℤ winding_at x y es i);
    small = λ j l.
        let w : Within (n + length es) (get_or s j (pos 0) +ℤ winding_at x y es j) =
        within_add {a = get_or s j (pos 0)} {b = winding_at x y es j} (record { size = h.small j l })
        (record { size = winding_small es (sample (4 * x + j % 4)) (sample (4 * y + j / 4)) }) in
        rw (tab_at 16 (λ i. get_or s i (pos 0) +ℤ winding_at x y es i) j (pos 0) l) w.size;
  }

  pub wound_small : (es : List Edge) (q : List ℤ) (n m : ℕ) → q ≡ wound x y s es → Sums s n → n + length es ≤ m → Sums q m
  wound_small es q n m e h l =
      let w = wound_sums es n h in
      subst (λ (z : List ℤ). Sums z m) (sym e) (record { room = w.room; small = λ j k. omega (arith, w.small j k, l) })

  -- from zeros on they are the winding numbers, and those inside are k
  pub inside_counted : (es : List Edge) (non_zero : Bool) → Sums s 0
      → total 16 (λ j. one_if (inside_by non_zero (get_or (wound x y s es) j (pos 0)))) ≡ coverage es non_zero x y
  unfolding coverage
  inside_counted es non_zero h =
      total_same 16 (λ j. one_if (inside_by non_zero (get_or (wound x y s es) j (pos 0)))) (λ j. one_if (inside_by non_zero (winding_at x y es j)))
      (λ j l. ap (λ (z : ℤ). one_if (inside_by non_zero z))
      (wound_at es j l ∙ ap (λ (z : ℤ). z +ℤ winding_at x y es j) (zero_is (get_or s j (pos 0)) (h.small j l)) ∙ +ℤ_idl (winding_at x y es j)))
      ∙ by_rows (λ m r. one_if (inside_by non_zero (winding es (sample (4 * x + m)) (sample (4 * y + r)))))
