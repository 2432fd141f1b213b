-- The outer end of a list of edges, and the box that it makes.
use mathlib.Core.Path.{◌≡◌, refl, sym, ap, subst, ◌∙◌}
use mathlib.Core.Bool.{Bool, true, false, true≢false}
use mathlib.Core.List.{List, [], ◌∷◌, ◌++◌, foldl-append}
use Prim.Native.Nat.{ℕ, min, ◌+◌, ◌<◌}
use native.Mathlib.Nat.{not-suc-le-zero}
use native.Mathlib.Numerals.{add-one}
use native.Mathlib.Omega.{arith}
use lib.Dec.{T, lit<}
use lib.ListN.{length}
use lib.IntN.{ℤ, pos, negsuc, nat_abs}
use lib.Signed.{le_z, non_neg, ≤ℤ_refl, le_z_yes}
use mir.Syntax.{w32}
use mir.Val.{SFits}
use Rattle.lists.proofs.Laws.{tab_length}
use Rattle.fixed.specs.Floor.{floor_div}
use Rattle.fixed.proofs.Within.{Within, of_fits}
use Rattle.fixed.proofs.Poly.{var, from_within}
use Rattle.fixed.proofs.Poly as P
use Rattle.fixed.proofs.Means.{Num, keep, param, shr, tight}
use Rattle.fixed.proofs.Round.{from_floor}
use Rattle.fixed.proofs.Tests.{≤ℤ_trans, le_z_not}
use Rattle.rect.proofs.Laws.{either}
use Rattle.path.specs.declared.Edge.{Edge}
use Rattle.path.specs.Boxes.{outer, end_of, outer_of, within, box_of}
use Rattle.path.specs.Stored.{edge_at, edges_of}
use Rattle.outline.specs.Around.{Beyond}
use Rattle.outline.specs.Corners.{ordered_of, grown_by, corners, pixels_of}

-- ---- the outer of two lies at both or further out, and no further than what does so too
pub beyond_refl : (greater : Bool) (a : ℤ) → Beyond greater a a
beyond_refl true a = ≤ℤ_refl a
beyond_refl false a = ≤ℤ_refl a

pub beyond_trans : (greater : Bool) (a b c : ℤ) → Beyond greater a b → Beyond greater b c → Beyond greater a c
beyond_trans true a b c h k = ≤ℤ_trans k h
beyond_trans false a b c h k = ≤ℤ_trans h k

pub outer_first : (greater : Bool) (a b : ℤ) → Beyond greater (outer greater a b) a
unfolding outer
outer_first true a b = either (le_z a b) (λ e. rw e (le_z_yes (subst T (sym e) tt))) (λ e. rw e (≤ℤ_refl a))
outer_first false a b = either (le_z a b) (λ e. rw e (≤ℤ_refl a)) (λ e. rw e (le_z_not a b e))

pub outer_second : (greater : Bool) (a b : ℤ) → Beyond greater (outer greater a b) b
unfolding outer
outer_second true a b = either (le_z a b) (λ e. rw e (≤ℤ_refl b)) (λ e. rw e (le_z_not a b e))
outer_second false a b = either (le_z a b) (λ e. rw e (le_z_yes (subst T (sym e) tt))) (λ e. rw e (≤ℤ_refl b))

pub outer_within : (greater : Bool) (m a b : ℤ) → Beyond greater m a → Beyond greater m b → Beyond greater m (outer greater a b)
unfolding outer
outer_within true m a b h k = either (le_z a b) (λ e. rw e k) (λ e. rw e h)
outer_within false m a b h k = either (le_z a b) (λ e. rw e h) (λ e. rw e k)

-- ---- the outer end of a list
-- one edge more
outer_more : (greater axis : Bool) (es : List Edge) (e : Edge) → 0 < length es
    → outer_of greater axis (es ++ (e ∷ [])) ≡ outer greater (outer_of greater axis es) (end_of greater axis e)
unfolding outer_of
outer_more greater axis [] e h = absurd (not-suc-le-zero h)
outer_more greater axis (d ∷ es) e h = foldl-append (λ n c. outer greater n (end_of greater axis c)) (end_of greater axis d) es (e ∷ [])

outer_next : (greater axis : Bool) (l : List ℤ) (i : ℕ) → 0 < i
    → outer_of greater axis (edges_of l (i + 1)) ≡ outer greater (outer_of greater axis (edges_of l i)) (end_of greater axis (edge_at l i))
outer_next greater axis l i h =
    ap (λ (k : ℕ). outer_of greater axis (edges_of l k)) (add-one i) ∙ outer_more greater axis (edges_of l i) (edge_at l i) (rw (tab_length i (edge_at l)) h)

-- the corners of the first edge, and with one edge more
pub corners_first : (l : List ℤ) → ordered_of (edge_at l 0) ≡ corners (edges_of l 1)
unfolding outer_of
corners_first l = refl

pub corners_next : (l : List ℤ) (i : ℕ) → 0 < i → grown_by (corners (edges_of l i)) (edge_at l i) ≡ corners (edges_of l (i + 1))
corners_next l i h =
    sym (λ j. record {
      x0 = outer_next false false l i h j;
      y0 = outer_next false true l i h j;
      x1 = outer_next true false l i h j;
      y1 = outer_next true true l i h j;
    })

-- a number cut to 0..n
pub within_some : (n : ℕ) (z : ℤ) (m : ℕ) → le_z z (pos 0) ≡ false → min n (nat_abs z) ≡ m → m ≡ within n z
within_some n z m e h = rw e (sym h)

-- the box where there are edges
pub some_box : (width height : ℕ) (es : List Edge) → 0 < length es → box_of width height es ≡ pixels_of width height (corners es)
unfolding box_of
some_box width height [] h = absurd (not-suc-le-zero h)
some_box width height (e ∷ es) h = refl

pub box_some : (width height : ℕ) (l : List ℤ) (n : ℕ) → 0 < n → box_of width height (edges_of l n) ≡ pixels_of width height (corners (edges_of l n))
box_some width height l n h = some_box width height (edges_of l n) (rw (tab_length n (edge_at l)) h)
