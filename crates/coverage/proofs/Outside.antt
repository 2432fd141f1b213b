-- Outside the box of a closed path no sample is inside.
use mathlib.Core.Path.{◌≡◌, refl, sym, ap, ap₂, subst, ◌∙◌}
use mathlib.Core.List.{List, [], ◌∷◌, foldl}
use mathlib.Core.Bool.{Bool, true, false, cond}
use Prim.Native.Nat.{ℕ, zero, suc, ◌+◌, ◌*◌, ◌≤◌, ◌<◌, min}
use native.Mathlib.Nat.{not-suc-le-zero}
use native.Mathlib.Omega.{arith}
use lib.Dec.{T, leb, ltb, lit<}
use borrow.Author.Tests.{leb-true, ltb-true, ltb-false}
use lib.IntN.{ℤ, pos, negsuc, ◌+ℤ◌}
use lib.Signed.{le_z, ◌≤ℤ◌, ◌<ℤ◌, le_z_yes, ≤ℤ_refl, <ℤ-≤ℤ_trans}
use Rattle.lists.specs.Lists.{total}
use Rattle.fixed.specs.Floor.{floor_div}
use Rattle.fixed.proofs.Poly.{var, num, ◌⊕◌, le, lt, from_le, from_lt}
use Rattle.fixed.proofs.Round.{from_floor}
use Rattle.fixed.proofs.Tests.{≤ℤ_trans, le_z_not}
use Rattle.rect.specs.declared.Rect.{Rect}
use Rattle.rect.specs.Rects.{Inside}
use Rattle.path.specs.declared.Edge.{Edge}
use Rattle.path.specs.Closed.{Closed}
use Rattle.path.specs.Boxes.{outer, end_of, outer_of, within, box_of}
use Rattle.coverage.specs.Winding.{winding, inside_by, one_if, tally, sample, coverage}
use Rattle.outline.proofs.Every.{Every, none, more}
use Rattle.coverage.proofs.Sides.{every_map, left_wind, right_wind, under_wind, over_wind}

-- ---- the box
module _ (a b : ℤ) where
  lesser : (outer false a b ≤ℤ a) × (outer false a b ≤ℤ b)
  unfolding outer
  lesser = by (le_z a b) refl
    where
      by : (t : Bool) → le_z a b ≡ t → (cond t a b ≤ℤ a) × (cond t a b ≤ℤ b)
      by true q = (≤ℤ_refl a, le_z_yes (subst T (sym q) tt))
      by false q = (le_z_not a b q, ≤ℤ_refl b)

  greater : (a ≤ℤ outer true a b) × (b ≤ℤ outer true a b)
  unfolding outer
  greater = by (le_z a b) refl
    where
      by : (t : Bool) → le_z a b ≡ t → (a ≤ℤ cond t b a) × (b ≤ℤ cond t b a)
      by true q = (le_z_yes (subst T (sym q) tt), ≤ℤ_refl b)
      by false q = (≤ℤ_refl a, le_z_not a b q)

-- a is not beyond b, on the low side or on the high side
abbrev Beyond : Bool → ℤ → ℤ → Type 0
Beyond false a b = a ≤ℤ b
Beyond true a b = b ≤ℤ a

beyond_refl : (high : Bool) (a : ℤ) → Beyond high a a
beyond_refl true a = ≤ℤ_refl a
beyond_refl false a = ≤ℤ_refl a

beyond_trans : (high : Bool) (a b c : ℤ) → Beyond high a b → Beyond high b c → Beyond high a c
beyond_trans true a b c h k = ≤ℤ_trans k h
beyond_trans false a b c h k = ≤ℤ_trans h k

outer_both : (high : Bool) (a b : ℤ) → (Beyond high (outer high a b) a) × (Beyond high (outer high a b) b)
outer_both true a b = greater a b
outer_both false a b = lesser a b

fold_outer : (high axis : Bool) (m : ℤ) (es : List Edge)
    → (Beyond high (foldl (λ n d. outer high n (end_of high axis d)) m es) m)
    × Every (λ d. Beyond high (foldl (λ n d. outer high n (end_of high axis d)) m es) (end_of high axis d)) es
fold_outer high axis m [] = (beyond_refl high m, none)
fold_outer high axis m (d ∷ es) =
    let e = end_of high axis d in
    let r = fold_outer high axis (outer high m e) es in
    let t = foldl (λ n c. outer high n (end_of high axis c)) (outer high m e) es in
    let l = outer_both high m e in
    (beyond_trans high t (outer high m e) m r.0 l.0, more (beyond_trans high t (outer high m e) e r.0 l.1) r.1)

every_outer : (high axis : Bool) (es : List Edge) → Every (λ d. Beyond high (outer_of high axis es) (end_of high axis d)) es
unfolding outer_of
every_outer high axis [] = none
every_outer high axis (e ∷ es) =
    let r = fold_outer high axis (end_of high axis e) es in
    more r.0 r.1

-- a pixel left of the box has its samples left of every end, one right of it at or right of every end
before_pixel : (m : ℤ) (x j : ℕ) → pos x <ℤ floor_div m 256 → j < 4 * x + 4 → sample j <ℤ m
before_pixel m x j h k =
    lt (num (64 * j + 32)) (var m) (omega (arith, from_floor (var m) 256 (lit< tt), from_lt (num x) (var (floor_div m 256)) h))

after_pixel_lem : (m : ℤ) (x j : ℕ) → (floor_div m 256 +ℤ pos 1) ≤ℤ pos x → 4 * x ≤ j → m ≤ℤ sample j
after_pixel_lem m x j h k =
    le (var m) (num (64 * j + 32)) (omega (arith, from_floor (var m) 256 (lit< tt), from_le (var (floor_div m 256) ⊕ num 1) (num x) h))

-- no sample inside
zero_out : (non_zero : Bool) → one_if (inside_by non_zero (pos 0)) ≡ 0
zero_out true = refl
zero_out false = refl

total_none : (n : ℕ) (f : ℕ → ℕ) → ((m : ℕ) → m < n → f m ≡ 0) → total n f ≡ 0
total_none zero f h = refl
total_none (suc n) f h = ap₂ ◌+◌ (total_none n f (λ m l. h m (omega arith))) (h n (omega arith))

coverage_none : (es : List Edge) (non_zero : Bool) (x y : ℕ)
    → ((j r : ℕ) → 4 * x ≤ j → j < 4 * x + 4 → 4 * y ≤ r → r < 4 * y + 4 → winding es (sample j) (sample r) ≡ pos 0) → coverage es non_zero x y ≡ 0
unfolding coverage
coverage_none es non_zero x y h =
    total_none 4 (λ r. tally non_zero (λ j. winding es (sample j) (sample (4 * y + r))) x)
    (λ r l. total_none 4 (λ m. one_if (inside_by non_zero (winding es (sample (4 * x + m)) (sample (4 * y + r)))))
    (λ m k. ap (λ (w : ℤ). one_if (inside_by non_zero w)) (h (4 * x + m) (4 * y + r) (omega arith) (omega arith) (omega arith) (omega arith))
    ∙ zero_out non_zero))

-- ---- an edge's two ends on an axis: false for x, true for y
abbrev from_of : Bool → Edge → ℤ
from_of axis e = cond axis e.y0 e.x0

abbrev to_of : Bool → Edge → ℤ
to_of axis e = cond axis e.y1 e.x1

module _ (es : List Edge) (p j : ℕ) where
  every_past : (axis : Bool) → pos p <ℤ floor_div (outer_of false axis es) 256 → j < 4 * p + 4
      → Every (λ f. (sample j <ℤ from_of axis f) × (sample j <ℤ to_of axis f)) es
  every_past axis h b = every_map (λ f l. past axis f (<ℤ-≤ℤ_trans (before_pixel (outer_of false axis es) p j h b) l)) (every_outer false axis es)
    where
      past : (axis : Bool) (f : Edge) → sample j <ℤ end_of false axis f → (sample j <ℤ from_of axis f) × (sample j <ℤ to_of axis f)
      past true f m = (<ℤ-≤ℤ_trans m (lesser f.y0 f.y1).0, <ℤ-≤ℤ_trans m (lesser f.y0 f.y1).1)
      past false f m = (<ℤ-≤ℤ_trans m (lesser f.x0 f.x1).0, <ℤ-≤ℤ_trans m (lesser f.x0 f.x1).1)

  every_passed : (axis : Bool) → (floor_div (outer_of true axis es) 256 +ℤ pos 1) ≤ℤ pos p → 4 * p ≤ j
      → Every (λ f. (from_of axis f ≤ℤ sample j) × (to_of axis f ≤ℤ sample j)) es
  every_passed axis h a = every_map (λ f l. passed axis f (≤ℤ_trans l (after_pixel_lem (outer_of true axis es) p j h a))) (every_outer true axis es)
    where
      passed : (axis : Bool) (f : Edge) → end_of true axis f ≤ℤ sample j → (from_of axis f ≤ℤ sample j) × (to_of axis f ≤ℤ sample j)
      passed true f m = (≤ℤ_trans (greater f.y0 f.y1).0 m, ≤ℤ_trans (greater f.y0 f.y1).1 m)
      passed false f m = (≤ℤ_trans (greater f.x0 f.x1).0 m, ≤ℤ_trans (greater f.x0 f.x1).1 m)

-- ---- the four sides, by the least and the greatest of the ends
module _ (es : List Edge) (non_zero : Bool) (x y : ℕ) where
  left_of_box : pos x <ℤ floor_div (outer_of false false es) 256 → coverage es non_zero x y ≡ 0
  left_of_box h = coverage_none es non_zero x y (λ j r a b c d. left_wind (sample j) (sample r) (every_past es x j false h b))

  below_box : pos y <ℤ floor_div (outer_of false true es) 256 → coverage es non_zero x y ≡ 0
  below_box h = coverage_none es non_zero x y (λ j r a b c d. under_wind (sample j) (sample r) (every_past es y r true h d))

  right_of_box : Closed es → (floor_div (outer_of true false es) 256 +ℤ pos 1) ≤ℤ pos x → coverage es non_zero x y ≡ 0
  right_of_box cl h = coverage_none es non_zero x y (λ j r a b c d. right_wind (sample j) (sample r) cl (every_passed es x j false h a))

  above_box : (floor_div (outer_of true true es) 256 +ℤ pos 1) ≤ℤ pos y → coverage es non_zero x y ≡ 0
  above_box h = coverage_none es non_zero x y (λ j r a b c d. over_wind (sample j) (sample r) (every_passed es y r true h c))

-- ---- the box, cut to the surface
below_cut : (n : ℕ) (z : ℤ) (x : ℕ) → x < within n z → pos x <ℤ z
below_cut n (negsuc m) x h = absurd (not-suc-le-zero h)
below_cut n (pos m) x h = by (leb m 0) h
  where
    by : (t : Bool) → x < cond t 0 (min n m) → pos x <ℤ pos m
    by true k = absurd (not-suc-le-zero k)
    by false k = lt (num x) (num m) (omega arith)

above_cut : (n : ℕ) (z : ℤ) (x : ℕ) → x < n → within n z ≤ x → z ≤ℤ pos x
above_cut n (negsuc m) x l h = le (var (negsuc m)) (num x) (omega arith)
above_cut n (pos m) x l h = by (leb m 0) refl h
  where
    by : (t : Bool) → leb m 0 ≡ t → cond t 0 (min n m) ≤ x → pos m ≤ℤ pos x
    by true e k = le (num m) (num x) (omega (arith, leb-true m 0 e))
    by false e k = le (num m) (num x) (omega arith)

-- OUTSIDE ITS BOX A DRAW HAS k = 0
module _ (width height : ℕ) (non_zero : Bool) (x y : ℕ) (across : x < width) (up : y < height) where
  pub outside_box_uncovered : (es : List Edge) → Closed es → (Inside (box_of width height es) x y → ⊥) → coverage es non_zero x y ≡ 0
  unfolding box_of winding
  outside_box_uncovered [] closed out = coverage_none [] non_zero x y (λ j r a b c d. refl)
  outside_box_uncovered (e ∷ es) closed out = by (ltb x b.x0) (ltb x b.x1) (ltb y b.y0) (ltb y b.y1) refl refl refl refl
    where
      b : Rect
      b = box_of width height (e ∷ es)

      by : (l r u o : Bool) → ltb x b.x0 ≡ l → ltb x b.x1 ≡ r → ltb y b.y0 ≡ u → ltb y b.y1 ≡ o → coverage (e ∷ es) non_zero x y ≡ 0
      by true r u o p q s t = left_of_box (e ∷ es) non_zero x y (below_cut width (floor_div (outer_of false false (e ∷ es)) 256) x (ltb-true x b.x0 p))
      by false false u o p q s t =
          right_of_box (e ∷ es) non_zero x y closed (above_cut width (floor_div (outer_of true false (e ∷ es)) 256 +ℤ pos 1) x across (ltb-false x b.x1 q))
      by false true true o p q s t = below_box (e ∷ es) non_zero x y (below_cut height (floor_div (outer_of false true (e ∷ es)) 256) y (ltb-true y b.y0 s))
      by false true false false p q s t =
          above_box (e ∷ es) non_zero x y (above_cut height (floor_div (outer_of true true (e ∷ es)) 256 +ℤ pos 1) y up (ltb-false y b.y1 t))
      by false true false true p q s t =
          absurd (out (record { left = ltb-false x b.x0 p; right = ltb-true x b.x1 q; below = ltb-false y b.y0 s; above = ltb-true y b.y1 t }))
