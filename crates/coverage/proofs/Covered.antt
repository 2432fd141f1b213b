-- A path with one edge along the left side of a rectangle, whose other edges count at none of its samples, covers it.
use mathlib.Core.Path.{◌≡◌, refl, sym, ap, ap₂, subst, ◌∙◌}
use mathlib.Core.List.{List}
use mathlib.Core.Bool.{Bool, true, false, not, cond, ◌&&◌, ◌||◌}
use Prim.Native.Nat.{ℕ, zero, suc, ◌+◌, ◌-◌, ◌*◌, ◌%◌, ◌≤◌, ◌<◌}
use native.Mathlib.Nat.{zero-add, add-zero}
use native.Mathlib.Omega.{arith}
use lib.Dec.{T, eqb}
use lib.IntN.{ℤ, pos, negsuc, nat_abs, ◌+ℤ◌, ◌-ℤ◌, +ℤ_idl, +ℤ_idr}
use lib.Signed.{le_z, lt_z, ◌≤ℤ◌, ◌<ℤ◌, le_z_yes, lt_z_yes, clash_ℤ}
use Rattle.lists.specs.Lists.{total}
use Rattle.lists.proofs.Laws.{total_same}
use Rattle.fixed.proofs.Poly.{var, num, le, lt, from_le, from_lt}
use Rattle.fixed.proofs.Tests.{is_true, is_false, both_left, both_right}
use Rattle.rect.specs.declared.Rect.{Rect}
use Rattle.path.specs.declared.Edge.{Edge}
use Rattle.path.specs.Stored.{edge_at, edges_of}
use Rattle.coverage.specs.Winding.{weight, counts, winding, inside_by, one_if, tally, sample, coverage}
use Rattle.coverage.specs.Scanline.{beyond}
use Rattle.coverage.specs.Band.{apart}
use Rattle.coverage.specs.Covers.{across, alongside, part_of, Covered}
use Rattle.coverage.proofs.Sums.{sum_more}
use Rattle.coverage.proofs.Telescope.{weight_law}
use Rattle.coverage.proofs.Sides.{left_of, right_of, under, over}

-- ---- the size of a sum, where at most one part of it is not 0
lone : (a b : ℤ) → nat_abs a + nat_abs b ≤ 1 → nat_abs (a +ℤ b) ≡ nat_abs a + nat_abs b
lone (pos zero) b h = ap nat_abs (+ℤ_idl b) ∙ sym (zero-add (nat_abs b))
lone (pos (suc a)) (pos zero) h = refl
lone (pos (suc a)) (pos (suc b)) h = absurd (omega arith)
lone (pos (suc a)) (negsuc b) h = absurd (omega arith)
lone (negsuc a) (pos zero) h = ap nat_abs (+ℤ_idr (negsuc a)) ∙ sym (add-zero (suc a))
lone (negsuc a) (pos (suc b)) h = absurd (omega arith)
lone (negsuc a) (negsuc b) h = absurd (omega arith)

-- what is at or before a sample is so with each behind it
from_first : (i m : ℕ) (z : ℤ) → i ≤ m → T (le_z z (sample i)) → z ≤ℤ sample m
from_first i m z h t = le (var z) (num (64 * m + 32)) (omega (arith, from_le (var z) (num (64 * i + 32)) (le_z_yes t)))

-- ---- one edge, at the sample j of the sample row r
module _ (a : Rect) (j r : ℕ) (left : 4 * a.x0 ≤ j) (right : j < 4 * a.x1) (below : 4 * a.y0 ≤ r) (above : r < 4 * a.y1) where
  above_row : (z : ℤ) → T (lt_z (sample (4 * a.y1 - 1)) z) → sample r <ℤ z
  above_row z t = lt (num (64 * r + 32)) (var z) (omega (arith, from_lt (num (64 * (4 * a.y1 - 1) + 32)) (var z) (lt_z_yes t)))

  right_of_column : (z : ℤ) → T (le_z (pos (64 * (4 * a.x1))) z) → sample j <ℤ z
  right_of_column z t = lt (num (64 * j + 32)) (var z) (omega (arith, from_le (num (64 * (4 * a.x1))) (var z) (le_z_yes t)))

  from_row : (z : ℤ) → T (le_z z (sample (4 * a.y0))) → z ≤ℤ sample r
  from_row z = from_first (4 * a.y0) r z below

  from_column : (z : ℤ) → T (le_z z (sample (4 * a.x0))) → z ≤ℤ sample j
  from_column z = from_first (4 * a.x0) j z left

  module _ (e : Edge) where
    apart_counts : T (apart e.y0 e.y1 a.y0 a.y1) → counts (sample j) (sample r) e ≡ pos 0
    apart_counts = by (le_z e.y0 (sample (4 * a.y0))) refl
      where
        by : (t : Bool) → le_z e.y0 (sample (4 * a.y0)) ≡ t
            → T (cond t (le_z e.y1 (sample (4 * a.y0))) (lt_z (sample (4 * a.y1 - 1)) e.y0 && lt_z (sample (4 * a.y1 - 1)) e.y1))
            → counts (sample j) (sample r) e ≡ pos 0
        by true p u = over (sample j) (sample r) e (from_row e.y0 (subst T (sym p) tt), from_row e.y1 u)
        by false p u =
            let l = lt_z (sample (4 * a.y1 - 1)) e.y0 in
            let m = lt_z (sample (4 * a.y1 - 1)) e.y1 in
            under (sample j) (sample r) e (above_row e.y0 (both_left l m u), above_row e.y1 (both_right l m u))

    beyond_counts : T (beyond e.x0 e.x1 (4 * a.x1)) → counts (sample j) (sample r) e ≡ pos 0
    beyond_counts t =
        let l = le_z (pos (64 * (4 * a.x1))) e.x0 in
        let m = le_z (pos (64 * (4 * a.x1))) e.x1 in
        left_of (sample j) (sample r) e (right_of_column e.x0 (both_left l m t), right_of_column e.x1 (both_right l m t))

    -- an edge's weight, by where its ends are
    ends_weigh : (s t : Bool) → le_z e.y0 (sample r) ≡ s → le_z e.y1 (sample r) ≡ t → weight (sample r) e ≡ cond s (pos 1) (pos 0) -ℤ cond t (pos 1) (pos 0)
    ends_weigh s t p q = weight_law e (sample r) ∙ ap₂ (λ (a b : Bool). cond a (pos 1) (pos 0) -ℤ cond b (pos 1) (pos 0)) p q

    across_low : (low high : ℤ) → T (across low high a.y0 a.y1) → le_z low (sample r) ≡ true
    across_low low high t =
        is_true (le_z low (sample r)) (from_row low (both_left (le_z low (sample (4 * a.y0))) (lt_z (sample (4 * a.y1 - 1)) high) t)).le

    across_high : (low high : ℤ) → T (across low high a.y0 a.y1) → le_z high (sample r) ≡ false
    across_high low high t =
        is_false (le_z high (sample r))
        (λ u. clash_ℤ {a = sample r} {b = high} (above_row high (both_right (le_z low (sample (4 * a.y0))) (lt_z (sample (4 * a.y1 - 1)) high) t)) (le_z_yes u))

    across_weighs : T (across e.y0 e.y1 a.y0 a.y1 || across e.y1 e.y0 a.y0 a.y1) → nat_abs (weight (sample r) e) ≡ 1
    across_weighs = by (across e.y0 e.y1 a.y0 a.y1) refl
      where
        by : (t : Bool) → across e.y0 e.y1 a.y0 a.y1 ≡ t → T (t || across e.y1 e.y0 a.y0 a.y1) → nat_abs (weight (sample r) e) ≡ 1
        by true p u =
            let s = subst T (sym p) tt in
            ap nat_abs (ends_weigh true false (across_low e.y0 e.y1 s) (across_high e.y0 e.y1 s))
        by false p u = ap nat_abs (ends_weigh false true (across_high e.y1 e.y0 u) (across_low e.y1 e.y0 u))

    alongside_counts : T (alongside e a) → nat_abs (counts (sample j) (sample r) e) ≡ 1
    alongside_counts t =
        let l = le_z e.x0 (sample (4 * a.x0)) in
        let m = le_z e.x1 (sample (4 * a.x0)) in
        let b = across e.y0 e.y1 a.y0 a.y1 || across e.y1 e.y0 a.y0 a.y1 in
        let u = both_right l (m && b) t in
        ap nat_abs (right_of (sample j) (sample r) e (from_column e.x0 (both_left l (m && b) t), from_column e.x1 (both_left m b u)))
        ∙ across_weighs (both_right m b u)

    part_counts : part_of a e ≤ 1 → nat_abs (counts (sample j) (sample r) e) ≡ part_of a e
    unfolding part_of
    part_counts = by (apart e.y0 e.y1 a.y0 a.y1) (beyond e.x0 e.x1 (4 * a.x1)) (alongside e a) refl refl refl
      where
        by : (s t u : Bool) → apart e.y0 e.y1 a.y0 a.y1 ≡ s → beyond e.x0 e.x1 (4 * a.x1) ≡ t → alongside e a ≡ u
            → cond s 0 (cond t 0 (cond u 1 2)) ≤ 1 → nat_abs (counts (sample j) (sample r) e) ≡ cond s 0 (cond t 0 (cond u 1 2))
        by true t u p q o h = ap nat_abs (apart_counts (subst T (sym p) tt))
        by false true u p q o h = ap nat_abs (beyond_counts (subst T (sym q) tt))
        by false false true p q o h = alongside_counts (subst T (sym o) tt)
        by false false false p q o h = absurd (omega arith)

  -- ---- all edges: at most one of them counts
  one_counts : (l : List ℤ) (n : ℕ) → total n (λ i. part_of a (edge_at l i)) ≤ 1
      → nat_abs (winding (edges_of l n) (sample j) (sample r)) ≡ total n (λ i. part_of a (edge_at l i))
  unfolding winding
  one_counts l zero h = refl
  one_counts l (suc n) h =
      let p = part_counts (edge_at l n) (omega arith) in
      let q = one_counts l n (omega arith) in
      let a = winding (edges_of l n) (sample j) (sample r) in
      let b = counts (sample j) (sample r) (edge_at l n) in
      ap nat_abs (sum_more (counts (sample j) (sample r)) (edges_of l n) (edge_at l n)) ∙ lone a b (omega arith) ∙ ap₂ ◌+◌ q p

-- ---- all samples of a pixel
one_inside : (non_zero : Bool) (w : ℤ) → nat_abs w ≡ 1 → one_if (inside_by non_zero w) ≡ 1
one_inside true w e = ap (λ (m : ℕ). one_if (not (eqb m 0))) e
one_inside false w e = ap (λ (m : ℕ). one_if (eqb (m % 2) 1)) e

pub one_covers : (a : Rect) (l : List ℤ) (n : ℕ) → total n (λ i. part_of a (edge_at l i)) ≡ 1 → Covered (edges_of l n) a
unfolding coverage
one_covers a l n e non_zero x y o =
    total_same 4 (λ r. tally non_zero (λ j. winding (edges_of l n) (sample j) (sample (4 * y + r))) x) (λ r. 4)
    (λ r h.
    total_same 4 (λ m. one_if (inside_by non_zero (winding (edges_of l n) (sample (4 * x + m)) (sample (4 * y + r))))) (λ m. 1)
    (λ m k.
    one_inside non_zero (winding (edges_of l n) (sample (4 * x + m)) (sample (4 * y + r)))
    (one_counts a (4 * x + m) (4 * y + r) (omega (arith, o.left)) (omega (arith, o.right)) (omega (arith, o.below)) (omega (arith, o.above)) l n
    (omega arith)
    ∙ e)))
