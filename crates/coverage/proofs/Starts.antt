-- What an edge begins in the four sample rows of a row of pixels, row after row.
use mathlib.Core.Path.{◌≡◌, refl, sym, ap, ap₂, subst, ◌∙◌}
use mathlib.Core.List.{List, [], ◌∷◌, ◌++◌}
use mathlib.Core.Bool.{Bool, true, false, cond, ◌&&◌}
use Prim.Native.Nat.{ℕ, ◌+◌, ◌*◌, ◌/◌, ◌%◌, ◌≤◌, ◌<◌}
use native.Mathlib.Omega.{arith}
use native.Mathlib.Decide.{ℕ_discrete}
use lib.Dec.{T, eqb, ltb}
use borrow.Author.Tests.{ltb-true, ltb-false, lt-ltb, le-ltb, eq-eqb, ne_eqb}
use lib.IntN.{ℤ, pos, negsuc, nat_abs, ◌+ℤ◌, ◌-ℤ◌, +ℤ_idr}
use lib.Signed.{le_z, lt_z, le_z_yes, lt_z_yes}
use lib.ListN.{length}
use Rattle.fixed.proofs.Within.{abs_add}
use Rattle.fixed.proofs.Poly.{var, num, le, from_le, from_lt}
use Rattle.fixed.proofs.Tests.{is_true, is_false, both_left, both_right}
use Rattle.path.specs.declared.Edge.{Edge}
use Rattle.coverage.specs.declared.Start.{Start}
use Rattle.coverage.specs.Winding.{spans, rises, sign, weight, sample}
use Rattle.coverage.specs.Scanline.{start_at, starts, start_of, sums_at, missed}
use Rattle.coverage.proofs.Sums.{sum_more, sum_small}
use Rattle.coverage.proofs.Telescope.{below, weight_law}

-- ---- sizes
pub weight_small : (Y : ℤ) (e : Edge) → nat_abs (weight Y e) ≤ 1
unfolding weight sign
weight_small Y e = by (spans e Y) (rises e)
  where
    by : (s t : Bool) → nat_abs (cond s (cond t (pos 1) (negsuc 0)) (pos 0)) ≤ 1
    by true true = omega arith
    by true false = omega arith
    by false t = omega arith

pub cond_small : (t : Bool) (v : ℤ) → nat_abs v ≤ 1 → nat_abs (cond t v (pos 0)) ≤ 1
cond_small true v h = h
cond_small false v h = omega arith

-- no column has more beginnings than there are edges
pub starts_small : (c k : ℕ) (Y : ℤ) (es : List Edge) (j : ℕ) → nat_abs (starts c k Y es j) ≤ length es
unfolding starts
starts_small c k Y es j =
    sum_small (λ e. cond (eqb (start_at c k Y e) j) (weight Y e) (pos 0)) es (λ e. cond_small (eqb (start_at c k Y e) j) (weight Y e) (weight_small Y e))

starts_more : (c k : ℕ) (Y : ℤ) (es : List Edge) (e : Edge) (j : ℕ)
    → starts c k Y (es ++ (e ∷ [])) j ≡ starts c k Y es j +ℤ cond (eqb (start_at c k Y e) j) (weight Y e) (pos 0)
unfolding starts
starts_more c k Y es e j = sum_more (λ d. cond (eqb (start_at c k Y d) j) (weight Y d) (pos 0)) es e

pub by_small : (c k : ℕ) (Y : ℤ) (e : Edge) (s : Start) → s ≡ start_of c k Y e → nat_abs s.by ≤ 1
unfolding start_of
by_small c k Y e s q = subst (λ (z : Start). nat_abs z.by ≤ 1) (sym q) (weight_small Y e)

-- a number's column and sample row
number_of : (s i : ℕ) → eqb (s * 4 + i % 4) i ≡ eqb s (i / 4)
number_of s i = by (ℕ_discrete s (i / 4))
  where
    by : Dec (s ≡ i / 4) → eqb (s * 4 + i % 4) i ≡ eqb s (i / 4)
    by (yes p) = eq-eqb (s * 4 + i % 4) i (omega arith) ∙ sym (eq-eqb s (i / 4) p)
    by (no p) = ne_eqb (s * 4 + i % 4) i (λ q. p (omega arith)) ∙ sym (ne_eqb s (i / 4) p)

-- ---- an edge, sample row after sample row
module _ (c k y : ℕ) where
  abbrev pub begun : Edge → ℕ → ℤ
  begun e i = cond (eqb (start_at c k (sample (4 * y + i % 4)) e) (i / 4)) (weight (sample (4 * y + i % 4)) e) (pos 0)

  -- with what the edge e begins in the first r sample rows
  abbrev pub partly : List Edge → Edge → ℕ → ℕ → ℤ
  partly es e r i = sums_at c k y es i +ℤ cond (ltb (i % 4) r) (begun e i) (pos 0)

  module _ (es : List Edge) (e : Edge) where
    pub partly_none : (i : ℕ) → sums_at c k y es i ≡ partly es e 0 i
    partly_none i = sym (ap (λ (t : Bool). sums_at c k y es i +ℤ cond t (begun e i) (pos 0)) (le-ltb (i % 4) 0 (omega arith)) ∙ +ℤ_idr (sums_at c k y es i))

    pub partly_more : (r i : ℕ) → r < 4
        → partly es e r i +ℤ cond (eqb (start_at c k (sample (4 * y + r)) e * 4 + r) i) (weight (sample (4 * y + r)) e) (pos 0) ≡ partly es e (r + 1) i
    partly_more r i h = by (ℕ_discrete (i % 4) r)
      where
        by : Dec (i % 4 ≡ r)
            → partly es e r i +ℤ cond (eqb (start_at c k (sample (4 * y + r)) e * 4 + r) i) (weight (sample (4 * y + r)) e) (pos 0) ≡ partly es e (r + 1) i
        by (yes p) =
            let s = start_at c k (sample (4 * y + i % 4)) e in
            ap (λ (q : ℕ). partly es e r i +ℤ cond (eqb (start_at c k (sample (4 * y + q)) e * 4 + q) i) (weight (sample (4 * y + q)) e) (pos 0)) (sym p)
            ∙ ap₂ (λ (t : Bool) (u : Bool). sums_at c k y es i +ℤ cond t (begun e i) (pos 0) +ℤ cond u (weight (sample (4 * y + i % 4)) e) (pos 0))
            (le-ltb (i % 4) r (omega arith)) (number_of s i)
            ∙ ap (λ (z : ℤ). z +ℤ begun e i) (+ℤ_idr (sums_at c k y es i))
            ∙ sym (ap (λ (t : Bool). sums_at c k y es i +ℤ cond t (begun e i) (pos 0)) (lt-ltb (i % 4) (r + 1) (omega arith)))
        by (no p) =
            ap₂ (λ (t : Bool) (u : Bool). sums_at c k y es i +ℤ cond t (begun e i) (pos 0) +ℤ cond u (weight (sample (4 * y + r)) e) (pos 0))
            (later (ltb (i % 4) r) refl)
            (ne_eqb (start_at c k (sample (4 * y + r)) e * 4 + r) i (λ q. p (row_of (start_at c k (sample (4 * y + r)) e) q)))
            ∙ +ℤ_idr (partly es e (r + 1) i)
          where
            later : (t : Bool) → ltb (i % 4) r ≡ t → ltb (i % 4) r ≡ ltb (i % 4) (r + 1)
            later true q = q ∙ sym (lt-ltb (i % 4) (r + 1) (omega (arith, ltb-true (i % 4) r q)))
            later false q = q ∙ sym (le-ltb (i % 4) (r + 1) (omega (arith, ltb-false (i % 4) r q, p)))

            row_of : (s : ℕ) → s * 4 + r ≡ i → i % 4 ≡ r
            row_of s q = omega arith

    pub partly_all : (i : ℕ) → partly es e 4 i ≡ sums_at c k y (es ++ (e ∷ [])) i
    partly_all i =
        ap (λ (t : Bool). sums_at c k y es i +ℤ cond t (begun e i) (pos 0)) (lt-ltb (i % 4) 4 (omega arith))
        ∙ sym (starts_more c k (sample (4 * y + i % 4)) es e (i / 4))

    pub partly_small : (r i : ℕ) → nat_abs (partly es e r i) ≤ length es + 1
    partly_small r i =
        omega (
          arith,
          abs_add (sums_at c k y es i) (cond (ltb (i % 4) r) (begun e i) (pos 0)),
          starts_small c k (sample (4 * y + i % 4)) es (i / 4),
          cond_small (ltb (i % 4) r) (begun e i)
              (cond_small (eqb (start_at c k (sample (4 * y + i % 4)) e) (i / 4)) (weight (sample (4 * y + i % 4)) e) (weight_small
              (sample (4 * y + i % 4)) e)),
        )

-- an edge that misses the row of pixels begins nothing in it
pub missed_weight : (e : Edge) (y r : ℕ) → r < 4 → missed e.y0 e.y1 y ≡ true → weight (sample (4 * y + r)) e ≡ pos 0
missed_weight e y r h q = weight_law e Y ∙ by (le_z e.y0 (sample (4 * y))) refl (is_set q)
  where
    Y : ℤ
    Y = sample (4 * y + r)

    is_set : missed e.y0 e.y1 y ≡ true → T (missed e.y0 e.y1 y)
    is_set p = subst T (sym p) tt

    low : (z : ℤ) → T (le_z z (sample (4 * y))) → le_z z Y ≡ true
    low z t = is_true (le_z z Y) (le (var z) (num (64 * (4 * y + r) + 32)) (omega (arith, from_le (var z) (num (64 * (4 * y) + 32)) (le_z_yes t)))).le

    high : (z : ℤ) → T (lt_z (sample (4 * y + 3)) z) → le_z z Y ≡ false
    high z t =
        is_false (le_z z Y)
        (λ u. omega (arith, from_lt (num (64 * (4 * y + 3) + 32)) (var z) (lt_z_yes t), from_le (var z) (num (64 * (4 * y + r) + 32)) (le_z_yes u)))

    by : (t : Bool) → le_z e.y0 (sample (4 * y)) ≡ t
        → T (cond t (le_z e.y1 (sample (4 * y))) (lt_z (sample (4 * y + 3)) e.y0 && lt_z (sample (4 * y + 3)) e.y1))
        → below Y e.y0 -ℤ below Y e.y1 ≡ pos 0
    by true p u = ap₂ (λ (a b : Bool). cond a (pos 1) (pos 0) -ℤ cond b (pos 1) (pos 0)) (low e.y0 (subst T (sym p) tt)) (low e.y1 u)
    by false p u =
        ap₂ (λ (a b : Bool). cond a (pos 1) (pos 0) -ℤ cond b (pos 1) (pos 0))
        (high e.y0 (both_left (lt_z (sample (4 * y + 3)) e.y0) (lt_z (sample (4 * y + 3)) e.y1) u))
        (high e.y1 (both_right (lt_z (sample (4 * y + 3)) e.y0) (lt_z (sample (4 * y + 3)) e.y1) u))

pub missed_more : (c k y : ℕ) (es : List Edge) (e : Edge) (i : ℕ) → missed e.y0 e.y1 y ≡ true → sums_at c k y es i ≡ sums_at c k y (es ++ (e ∷ [])) i
missed_more c k y es e i q =
    let Y = sample (4 * y + i % 4) in
    sym (starts_more c k Y es e (i / 4)
    ∙ ap (λ (v : ℤ). starts c k Y es (i / 4) +ℤ cond (eqb (start_at c k Y e) (i / 4)) v (pos 0)) (missed_weight e y (i % 4) (omega arith) q)
    ∙ ap (λ (v : ℤ). starts c k Y es (i / 4) +ℤ v) (none (eqb (start_at c k Y e) (i / 4))) ∙ +ℤ_idr (starts c k Y es (i / 4)))
  where
    none : (t : Bool) → cond t (pos 0) (pos 0) ≡ pos 0
    none true = refl
    none false = refl
