-- On and outside its circle a radial gradient's t is at least 65,536: Q - (D - A)² is D times what the squared distance from the centre is above r². Which
-- pixels of a row may lie inside, and the colour from 65,536 on where the spread pads.
use Rattle.std.proofs.Common.{◌≡◌, ℕ, suc, ◌+◌, ◌-◌, ◌*◌, ◌<◌, ◌≤◌, Bool, true, false, leb, List, ℤ, pos, negsuc, ◌+ℤ◌, ◌-ℤ◌, ◌*ℤ◌, nat_abs}
use Rattle.std.proofs.Common.{◌≤ℤ◌, ◌<ℤ◌, sym, refl, ap, ◌∙◌, subst, ap₂, le_refl, mul-le-mul, arith, le→leb, leb-false, leb-true}
use Rattle.fixed.specs.Roots.{isqrt}
use Rattle.fixed.proofs.Roots.{square_mono, largest, next_above}
use Rattle.fixed.proofs.Sign.{is_positive, above_zero}
use Rattle.fixed.proofs.Poly.{up, dn, var, num, eq, le, lt, from_eq, from_le, from_lt, ◌⊕◌, ◌⊖◌, ◌⊗◌}
use Rattle.color.specs.declared.Pixel.{Pixel}
use Rattle.raster.specs.Surface.{run}
use Rattle.raster.proofs.Runs.{run_same}
use Rattle.paint.specs.Gradient.{ramp_unit, mapped}
use Rattle.paint.specs.Radial.{along, under_root, inside, from_focus, radial_a, radial_q, radial_d, radial_t, focal_allowed}
use Rattle.paint.specs.Paints.{gradient_color}
use Rattle.paint.specs.Buffers.{Pads}
use Rattle.paint.specs.Circles.{LimitedCircle, Enclosing, RampWithin, first_from, columns_from, radial_at}
use Rattle.paint.specs.Segments.{position_of, color_at_position}
use Rattle.paint.specs.declared.Circle.{Circle}
use Rattle.paint.specs.declared.Columns.{Columns}
use Rattle.paint.specs.declared.RadialGradient.{RadialGradient}
use Rattle.paint.specs.declared.Stop.{Stop}
use Rattle.paint.proofs.Focal.{square_is, q_is, focal_inside, t_natural}
use Rattle.paint.proofs.Placing.{from_unit, behind, at_position}

-- ---- t on and outside the circle
-- the square of the distance from the centre is dx² + dy² + 2 A + f² + g²
distance : (u v f g : ℤ) → (u +ℤ f) *ℤ (u +ℤ f) +ℤ (v +ℤ g) *ℤ (v +ℤ g) ≡ u *ℤ u +ℤ v *ℤ v +ℤ (along u v f g +ℤ along u v f g) +ℤ (f *ℤ f +ℤ g *ℤ g)
distance u v f g =
    let A = var u ⊗ var f ⊕ var v ⊗ var g in
    eq ((var u ⊕ var f) ⊗ (var u ⊕ var f) ⊕ (var v ⊕ var g) ⊗ (var v ⊕ var g))
    (var u ⊗ var u ⊕ var v ⊗ var v ⊕ (A ⊕ A) ⊕ (var f ⊗ var f ⊕ var g ⊗ var g))
    (omega arith)

-- D is at most dx² + dy² + 2 A, so that D - A is at most the root of A² + D (dx² + dy²)
reached : (a : ℤ) (d n q : ℕ) → pos d ≤ℤ (pos n +ℤ (a +ℤ a)) → q ≡ isqrt (nat_abs a * nat_abs a + d * n) → d + dn a ≤ up a + q
reached (pos a) d n q h e = by (leb d a) refl
  where
    gap : (a m n : ℕ) → a + m ≤ n + (a + a) → m * m ≤ a * a + (a + m) * n
    gap a m n h = let k : m ≤ n + a = omega arith in omega (arith, mul-le-mul (le_refl (a + m)) k)

    by : (t : Bool) → leb d a ≡ t → d + 0 ≤ a + q
    by true f = omega (arith, leb-true d a f)
    by false f =
        let l = leb-false d a f in
        let m : d ≡ a + (d - a) = omega arith in
        let g = gap a (d - a) n (rw (← m) (omega (arith, from_le (num d) (num n ⊕ (num a ⊕ num a)) h))) in
        omega (arith, e, largest _ (d - a) (rw (← m) at g))
reached (negsuc b) d n q h e =
    let l = from_le (num d) (num n ⊕ (var (negsuc b) ⊕ var (negsuc b))) h in
    omega (arith, e, largest _ (d + suc b) (gap (suc b) (omega (arith, l))))
  where
    gap : (b : ℕ) → d + (b + b) ≤ n → (d + b) * (d + b) ≤ b * b + d * n
    gap b h = omega (arith, mul-le-mul (le_refl d) h)

-- the size of a number that is at least d, or at most -d
size_above : (d : ℕ) (z : ℤ) → d + dn z ≤ up z → d ≤ nat_abs z
size_above d (pos n) h = omega arith
size_above d (negsuc n) h = omega arith

size_below : (d : ℕ) (z : ℤ) → d + up z ≤ dn z → d ≤ nat_abs z
size_below d (pos n) h = omega arith
size_below d (negsuc n) h = omega arith

module _ (r u v f g : ℤ) (h : pos 0 <ℤ inside r f g) (out : (r *ℤ r) ≤ℤ ((u +ℤ f) *ℤ (u +ℤ f) +ℤ (v +ℤ g) *ℤ (v +ℤ g))) where
  apart : pos (nat_abs (inside r f g)) ≤ℤ (pos (nat_abs u * nat_abs u + nat_abs v * nat_abs v) +ℤ (along u v f g +ℤ along u v f g))
  apart =
      let A = along u v f g in
      let F = f *ℤ f +ℤ g *ℤ g in
      let N = nat_abs u * nat_abs u + nat_abs v * nat_abs v in
      let e : (u +ℤ f) *ℤ (u +ℤ f) +ℤ (v +ℤ g) *ℤ (v +ℤ g) ≡ pos N +ℤ (A +ℤ A) +ℤ F =
      distance u v f g ∙ ap (λ (z : ℤ). z +ℤ (A +ℤ A) +ℤ F) (ap₂ ◌+ℤ◌ (square_is u) (square_is v)) in
      let o : (r *ℤ r) ≤ℤ (pos N +ℤ (A +ℤ A) +ℤ F) = subst (λ (z : ℤ). (r *ℤ r) ≤ℤ z) e out in
      let d = from_eq (var (r *ℤ r) ⊖ var F) (num (nat_abs (inside r f g))) (is_positive h) in
      le (num (nat_abs (inside r f g))) (num N ⊕ (var A ⊕ var A)) (omega (arith, d, from_le (var (r *ℤ r)) (num N ⊕ (var A ⊕ var A) ⊕ var F) o))

  sum_large : nat_abs (inside r f g) ≤ nat_abs (along u v f g +ℤ pos (isqrt (nat_abs (under_root r u v f g))))
  sum_large =
      let A = along u v f g in
      let q = isqrt (nat_abs (under_root r u v f g)) in
      let l = reached A (nat_abs (inside r f g)) (nat_abs u * nat_abs u + nat_abs v * nat_abs v) q apart (ap (λ (z : ℤ). isqrt (nat_abs z)) (q_is r u v f g
      h)) in
      size_above _ (A +ℤ pos q) (omega (arith, l, (var A ⊕ num q).law))

-- the centre of the pixel (x, y) less that of the circle
from_centre : (x : ℕ) (f c : ℤ) → from_focus x f +ℤ (f -ℤ c) ≡ from_focus x c
from_centre x f c = eq (num (16 * x + 8) ⊖ var f ⊕ (var f ⊖ var c)) (num (16 * x + 8) ⊖ var c) (omega arith)

module _ (c : Circle) (near : LimitedCircle c) (allowed : focal_allowed c ≡ true) (h : pos 0 <ℤ c.r) where
  outer_t : (x y : ℕ) → (c.r *ℤ c.r) ≤ℤ (from_focus x c.cx *ℤ from_focus x c.cx +ℤ from_focus y c.cy *ℤ from_focus y c.cy)
      → pos ramp_unit ≤ℤ radial_t c x y
  unfolding radial_a radial_q radial_d
  outer_t x y out =
      let d = focal_inside c allowed h in
      let l =
      sum_large c.r (from_focus x c.fx) (from_focus y c.fy) (c.fx -ℤ c.cx) (c.fy -ℤ c.cy) d
      (rw (from_centre x c.fx c.cx, from_centre y c.fy c.cy) out) in
      rw (t_natural c near allowed h x y) (record { le = le→leb _ _ (from_unit _ _ (above_zero d) l) })

  -- the pixels of a row, of which the first is (x, y)
  pub enclosing_ramp : (x y n : ℕ) (k : Columns) → Enclosing c.r (from_focus x c.cx) (from_focus y c.cy) n k → RampWithin c x y n k
  enclosing_ramp x y n k e = record {
    order = e.order;
    few = e.few;
    before = λ i l. outer_t (x + i) y (rw (further x i c.cx) (e.before i l));
    behind = λ i l m. outer_t (x + i) y (rw (further x i c.cx) (e.behind i l m));
  }
    where
      further : (x i : ℕ) (c : ℤ) → from_focus (x + i) c ≡ from_focus x c +ℤ pos (16 * i)
      further x i c = eq (num (16 * (x + i) + 8) ⊖ var c) (num (16 * x + 8) ⊖ var c ⊕ num (16 * i)) (omega arith)

-- all columns are right too
pub all_within : (c : Circle) (x y n : ℕ) → RampWithin c x y n (record { from = 0; to = n })
all_within c x y n = record { order = omega arith; few = omega arith; before = λ i l. absurd (omega arith); behind = λ i l m. absurd (omega arith) }

module _ (n : ℕ) where
  first_few : (z : ℤ) → first_from z n ≤ n
  first_few (pos z) = omega arith
  first_few (negsuc z) = omega arith

  first_mono : (z w : ℤ) → z ≤ℤ w → first_from z n ≤ first_from w n
  first_mono (pos z) (pos w) h = omega (arith, from_le (num z) (num w) h)
  first_mono (pos z) (negsuc w) h = absurd h.le
  first_mono (negsuc z) w h = omega arith

  before_first : (z : ℤ) (i : ℕ) → i < first_from z n → pos (16 * i) <ℤ z
  before_first (pos z) i h = lt (num (16 * i)) (num z) (omega arith)
  before_first (negsuc z) i h = absurd (omega arith)

  from_first : (z : ℤ) (i : ℕ) → first_from z n ≤ i → i < n → z ≤ℤ pos (16 * i)
  from_first (pos z) i h l = le (num z) (num (16 * i)) (omega arith)
  from_first (negsuc z) i h l = le (var (negsuc z)) (num (16 * i)) (omega arith)

-- a point of the row that lies farther to a side than the circle reaches
module _ (r ey : ℤ) where
  beside : (z rest : ℤ) → rest ≡ r *ℤ r -ℤ ey *ℤ ey → pos 0 <ℤ rest → isqrt (nat_abs rest) + 1 ≤ nat_abs z → (r *ℤ r) ≤ℤ (z *ℤ z +ℤ ey *ℤ ey)
  beside z rest e h l =
      let m = nat_abs rest in
      let q : r *ℤ r -ℤ ey *ℤ ey ≡ pos m = sym e ∙ is_positive h in
      le (var (r *ℤ r)) (var (z *ℤ z) ⊕ var (ey *ℤ ey))
      (omega (
        arith,
        from_eq (var (r *ℤ r) ⊖ var (ey *ℤ ey)) (num m) q,
        from_eq (var (z *ℤ z)) (num (nat_abs z * nat_abs z)) (square_is z),
        square_mono l,
        next_above m,
      ))

  pub row_enclosing : (ex rest : ℤ) (n : ℕ) → rest ≡ r *ℤ r -ℤ ey *ℤ ey → pos 0 <ℤ rest → Enclosing r ex ey n (columns_from ex (isqrt (nat_abs rest)) n)
  row_enclosing ex rest n e h =
      let s = isqrt (nat_abs rest) in
      let left = pos 0 -ℤ pos s -ℤ ex in
      let right = pos s -ℤ ex +ℤ pos 1 in
      record {
        order = first_mono n left right (le (num 0 ⊖ num s ⊖ var ex) (num s ⊖ var ex ⊕ num 1) (omega arith));
        few = first_few n right;
        before = λ i l.
            beside (ex +ℤ pos (16 * i)) rest e h
            (size_below (s + 1) (ex +ℤ pos (16 * i))
            (omega (arith, from_lt (num (16 * i)) (num 0 ⊖ num s ⊖ var ex) (before_first n left i l), (var ex ⊕ num (16 * i)).law)));
        behind = λ i l m.
            beside (ex +ℤ pos (16 * i)) rest e h
            (size_above (s + 1) (ex +ℤ pos (16 * i))
            (omega (arith, from_le (num s ⊖ var ex ⊕ num 1) (num (16 * i)) (from_first n right i l m), (var ex ⊕ num (16 * i)).law)));
      }

  -- the row passes above or below the circle
  pub none_enclosing : (ex rest : ℤ) (n : ℕ) → rest ≡ r *ℤ r -ℤ ey *ℤ ey → rest ≤ℤ pos 0 → Enclosing r ex ey n (record { from = n; to = n })
  none_enclosing ex rest n e h = record {
    order = omega arith;
    few = omega arith;
    before = λ i l. out (ex +ℤ pos (16 * i));
    behind = λ i l m. out (ex +ℤ pos (16 * i));
  }
    where
      out : (z : ℤ) → (r *ℤ r) ≤ℤ (z *ℤ z +ℤ ey *ℤ ey)
      out z =
          le (var (r *ℤ r)) (var (z *ℤ z) ⊕ var (ey *ℤ ey))
          (omega (
            arith,
            from_le (var rest) (num 0) h,
            from_eq (var rest) (var (r *ℤ r) ⊖ var (ey *ℤ ey)) e,
            from_eq (var (z *ℤ z)) (num (nat_abs z * nat_abs z)) (square_is z),
          ))

-- ---- the colour from 65,536 on
last_color_lem : (spread : ℕ) (premultiply : Bool) (ramp : List Stop) (t : ℤ) → Pads spread → pos ramp_unit ≤ℤ t
    → gradient_color spread premultiply ramp (pos ramp_unit) ≡ gradient_color spread premultiply ramp t
last_color_lem spread premultiply ramp t pads h =
    let e : position_of (mapped spread (pos ramp_unit)) ≡ position_of (mapped spread t) =
    ap position_of (pads.same (pos ramp_unit)) ∙ sym (behind ramp_unit (omega arith)) ∙ at_end t h ∙ sym (ap position_of (pads.same t)) in
    sym (at_position spread premultiply ramp (pos ramp_unit)) ∙ ap (color_at_position premultiply ramp) e ∙ at_position spread premultiply ramp t
  where
    at_end : (t : ℤ) → pos ramp_unit ≤ℤ t → 65537 ≡ position_of t
    at_end (pos n) h = behind n (omega (arith, from_le (num ramp_unit) (num n) h))
    at_end (negsuc n) h = absurd h.le

-- pixels of a row, from the ith on, that all have it
pub last_run : (g : RadialGradient) (ramp : List Stop) (x y i m : ℕ) (p : Pixel) → Pads g.spread
    → p ≡ gradient_color g.spread g.premultiply ramp (pos ramp_unit) → ((j : ℕ) → j < m → pos ramp_unit ≤ℤ radial_t g.circle (x + (i + j)) y)
    → run m (λ j. p) ≡ run m (λ j. radial_at g ramp (x + (i + j)) y)
last_run g ramp x y i m p pads e h =
    run_same m (λ j. p) (λ j. radial_at g ramp (x + (i + j)) y)
    (λ j l. e ∙ last_color_lem g.spread g.premultiply ramp (radial_t g.circle (x + (i + j)) y) pads (h j l))
