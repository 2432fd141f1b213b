-- Where the focal point is inside the circle: Q is not negative, its root is not below A's size, so A + q and t are not negative either,
-- and every number of t fits 64 bits.
use Rattle.std.proofs.Common.{◌≡◌, ℕ, ◌+◌, ◌-◌, ◌*◌, ◌/◌, ◌<◌, ◌≤◌, true, false, T, List, ℤ, pos, negsuc, ◌+ℤ◌, ◌-ℤ◌, ◌*ℤ◌, nat_abs, ◌<ℤ◌, sym, refl, ap}
use Rattle.std.proofs.Common.{◌∙◌, subst, ap₂, add-le-add, mul-le-mul, arith, ltb→lt, lt→ltb, le-ltb, lt-ltb, leb-false, leb-true}
use lib.IntN.{pos-ne-negsuc}
use lib.Signed.{le_z, lt_z, non_neg}
use Rattle.lists.proofs.Laws.{upto_same}
use Rattle.fixed.specs.Floor.{floor_div}
use Rattle.fixed.specs.Roots.{isqrt}
use Rattle.fixed.proofs.Roots.{square_mono, largest, root_small}
use Rattle.fixed.proofs.Sign.{is_positive}
use Rattle.fixed.proofs.Within.{Within, within_pos, within_add, within_sub, within_mul}
use Rattle.fixed.proofs.Poly as P
use Rattle.fixed.proofs.Poly.{◌⊕◌, ◌⊖◌}
use Rattle.color.specs.declared.Pixel.{Pixel}
use Rattle.raster.specs.Surface.{bytes_of, run}
use Rattle.paint.specs.Gradient.{ramp_unit}
use Rattle.paint.specs.Radial.{along, across, under_root, inside, from_focus, radial_a, radial_q, radial_d, radial_t, focal_allowed}
use Rattle.paint.specs.Paints.{gradient_color}
use Rattle.paint.specs.Circles.{LimitedCircle, ModeratePlace, place_from, place_at, radial_at}
use Rattle.paint.specs.declared.Circle.{Circle}
use Rattle.paint.specs.declared.Place.{Place}
use Rattle.paint.specs.declared.RadialGradient.{RadialGradient}
use Rattle.paint.specs.declared.Stop.{Stop}
use Rattle.paint.proofs.Lagrange.{lagrange}

-- ---- numbers that are not negative
pub square_is : (z : ℤ) → z *ℤ z ≡ pos (nat_abs z * nat_abs z)
square_is (pos n) = refl
square_is (negsuc n) = refl

of_pos : {z : ℤ} {n : ℕ} → z ≡ pos n → z ≡ pos (nat_abs z)
of_pos e = e ∙ ap pos (sym (ap nat_abs e))

-- what a cast to an unsigned number asks
pub natural_cast : (z : ℤ) → z ≡ pos (nat_abs z) → T (non_neg z)
natural_cast (pos n) e = tt
natural_cast (negsuc n) e = absurd (pos-ne-negsuc _ _ (sym e))

-- ---- what a test of a radius tells
pub above_zero : (z : ℤ) → le_z z (pos 0) ≡ false → pos 0 <ℤ z
above_zero (pos n) e = record { lt = lt→ltb 0 n (leb-false n 0 e) }
above_zero (negsuc n) e = absurd (subst T e tt)

not_above_zero : (z : ℤ) → le_z z (pos 0) ≡ true → lt_z (pos 0) z ≡ false
not_above_zero (pos n) e = le-ltb 0 n (leb-true n 0 e)
not_above_zero (negsuc n) e = refl

is_above_zero : {z : ℤ} → pos 0 <ℤ z → lt_z (pos 0) z ≡ true
is_above_zero {z = pos n} h = lt-ltb 0 n (ltb→lt 0 n h.lt)
is_above_zero {z = negsuc n} h = absurd h.lt

pub focal_inside : (c : Circle) → focal_allowed c ≡ true → pos 0 <ℤ c.r → pos 0 <ℤ radial_d c
focal_inside c e h = record { lt = subst T (sym (rw (is_above_zero h) at e)) tt }

-- D is at most r²
inside_small : (r f g : ℤ) → pos 0 <ℤ inside r f g → nat_abs r ≤ 16384 → nat_abs (inside r f g) ≤ 268435456
inside_small r f g h a =
    let e = sym (is_positive h) ∙ ap₂ ◌-ℤ◌ (square_is r) (ap₂ ◌+ℤ◌ (square_is f) (square_is g)) in
    omega (
      arith,
      square_mono a,
      P.from_eq (P.num (nat_abs (inside r f g))) (P.num (nat_abs r * nat_abs r) ⊖ (P.num (nat_abs f * nat_abs f) ⊕ P.num (nat_abs g * nat_abs g))) e,
    )

pub d_small : (c : Circle) → nat_abs c.r ≤ 16384 → pos 0 <ℤ radial_d c → nat_abs (radial_d c) ≤ 268435456
unfolding radial_d
d_small c a h = inside_small c.r (c.fx -ℤ c.cx) (c.fy -ℤ c.cy) h a

-- ---- A, Q and D of plain numbers
module _ (r u v f g : ℤ) (h : pos 0 <ℤ inside r f g) where
  pub q_is : under_root r u v f g ≡ pos (nat_abs (along u v f g) * nat_abs (along u v f g) + nat_abs (inside r f g) * (nat_abs u * nat_abs u + nat_abs v *
      nat_abs v))
  q_is =
      lagrange r u v f g
      ∙ ap₂ ◌+ℤ◌ (square_is (along u v f g)) (ap₂ ◌*ℤ◌ (is_positive h) (ap₂ ◌+ℤ◌ (square_is u) (square_is v)))

  pub q_not_negative : under_root r u v f g ≡ pos (nat_abs (under_root r u v f g))
  q_not_negative = of_pos q_is

  pub a_below_root : nat_abs (along u v f g) ≤ isqrt (nat_abs (under_root r u v f g))
  a_below_root = largest _ _ (rw (ap nat_abs q_is) (omega arith))

  -- Q is r² (dx² + dy²) less a square
  less : nat_abs (under_root r u v f g) + nat_abs (across u v f g) * nat_abs (across u v f g) ≡ nat_abs r * nat_abs r * (nat_abs u * nat_abs u + nat_abs v
      * nat_abs v)
  less =
      let e = sym q_not_negative ∙ ap₂ ◌-ℤ◌ (ap₂ ◌*ℤ◌ (square_is r) (ap₂ ◌+ℤ◌ (square_is u) (square_is v))) (square_is (across u v f g)) in
      omega (
        arith,
        P.from_eq (P.num (nat_abs (under_root r u v f g)))
            (P.num (nat_abs r * nat_abs r * (nat_abs u * nat_abs u + nat_abs v * nat_abs v)) ⊖ P.num (nat_abs (across u v f g) * nat_abs (across u v f g)))
            e,
      )

  pub q_small : nat_abs r ≤ 16384 → nat_abs u ≤ 32792 → nat_abs v ≤ 32792 → nat_abs (under_root r u v f g) < 1152921504606846976
  q_small a b c = omega (arith, less, mul-le-mul (square_mono a) (add-le-add (square_mono b) (square_mono c)))

-- A + q
pub sum_not_negative : (a : ℤ) (q : ℕ) → nat_abs a ≤ q → a +ℤ pos q ≡ pos (nat_abs (a +ℤ pos q))
sum_not_negative a q h = of_pos (lifted a q h)
  where
    lifted : (a : ℤ) (q : ℕ) → nat_abs a ≤ q → a +ℤ pos q ≡ pos (P.up a + q - P.dn a)
    lifted a q h = P.eq (P.var a ⊕ P.num q) (P.num _) (omega (arith, P.from_within {b = q} (P.var a) (record { size = h })))

-- ---- the same of a place
-- what its root and t ask
pub record Rooted (p : Place) : Type 0 where
  pub natural : p.q ≡ pos (nat_abs p.q)
  pub small : nat_abs p.q < 1152921504606846976
  pub above : nat_abs p.a ≤ isqrt (nat_abs p.q)
  pub root : isqrt (nat_abs p.q) ≤ 1073741824

module _ (r u v f g : ℤ) (h : pos 0 <ℤ inside r f g) (a : nat_abs r ≤ 16384) (b : nat_abs u ≤ 32776) (c : nat_abs v ≤ 32776) where
  pub place_rooted : Rooted (place_from r u v f g)
  unfolding place_from
  place_rooted =
      let s = q_small r u v f g h a (omega arith) (omega arith) in
      record { natural = q_not_negative r u v f g h; small = s; above = a_below_root r u v f g h; root = let l = root_small _ s in omega arith }

  next_small : nat_abs (u +ℤ pos 16) ≤ 32792
  next_small = (within_add {m = 32776} {n = 16} {a = u} {b = pos 16} (record { size = b }) (within_pos 16)).size

  bend_small : nat_abs g ≤ 32768 → Within 687194767360 (pos 512 *ℤ (r *ℤ r -ℤ g *ℤ g))
  bend_small e =
      let R : Within 268435456 (r *ℤ r) = within_mul {m = 16384} {n = 16384} {a = r} {b = r} (record { size = a }) (record { size = a }) in
      let G : Within 1073741824 (g *ℤ g) = within_mul {m = 32768} {n = 32768} {a = g} {b = g} (record { size = e }) (record { size = e }) in
      let d : Within 1342177280 (r *ℤ r -ℤ g *ℤ g) = within_sub {m = 268435456} {n = 1073741824} {a = r *ℤ r} {b = g *ℤ g} R G in
      within_mul {m = 512} {n = 1342177280} {a = pos 512} {b = r *ℤ r -ℤ g *ℤ g} (within_pos 512) d

  pub place_near : nat_abs f ≤ 32768 → nat_abs g ≤ 32768 → ModeratePlace (place_from r u v f g)
  unfolding place_from
  place_near d e =
      let l = q_small r u v f g h a (omega arith) (omega arith) in
      let m = q_small r (u +ℤ pos 16) v f g h a next_small (omega arith) in
      let w : Within 1152921504606846976 (under_root r u v f g) = record { size = omega arith } in
      let n : Within 1152921504606846976 (under_root r (u +ℤ pos 16) v f g) = record { size = omega arith } in
      let k = root_small _ l in
      record {
        a = omega (arith, a_below_root r u v f g h);
        q = omega arith;
        dq = (within_sub {m = 1152921504606846976} {n = 1152921504606846976} {a = under_root r (u +ℤ pos 16) v f g} {b = under_root r u v f g} n w).size;
        da = omega (arith, (within_mul {m = 16} {n = 32768} {a = pos 16} {b = f} (within_pos 16) (record { size = d })).size);
        ddq = omega (arith, (bend_small e).size);
      }

-- ---- the same of a circle and the pixel (x, y)
focus_small : (x : ℕ) (f : ℤ) → x ≤ 1024 → nat_abs f ≤ 16384 → nat_abs (from_focus x f) ≤ 32776
focus_small x f h k =
    let w : Within 16392 (pos (16 * x + 8)) = record { size = omega arith } in
    (within_sub {m = 16392} {n = 16384} {a = pos (16 * x + 8)} {b = f} w (record { size = k })).size

apart_small : (f c : ℤ) → nat_abs f ≤ 16384 → nat_abs c ≤ 16384 → nat_abs (f -ℤ c) ≤ 32768
apart_small f c h k = (within_sub {m = 16384} {n = 16384} {a = f} {b = c} (record { size = h }) (record { size = k })).size

module _ (c : Circle) (near : LimitedCircle c) (allowed : focal_allowed c ≡ true) (h : pos 0 <ℤ c.r) (x y : ℕ) where
  inner : pos 0 <ℤ inside c.r (c.fx -ℤ c.cx) (c.fy -ℤ c.cy)
  unfolding radial_d
  inner = focal_inside c allowed h

  pub at_rooted : x ≤ 1024 → y ≤ 1024 → Rooted (place_at c x y)
  unfolding place_at
  at_rooted a b =
      place_rooted c.r (from_focus x c.fx) (from_focus y c.fy) (c.fx -ℤ c.cx) (c.fy -ℤ c.cy) inner near.r (focus_small x c.fx a near.fx)
      (focus_small y c.fy b near.fy)

  pub at_near : x ≤ 1024 → y ≤ 1024 → ModeratePlace (place_at c x y)
  unfolding place_at
  at_near a b =
      place_near c.r (from_focus x c.fx) (from_focus y c.fy) (c.fx -ℤ c.cx) (c.fy -ℤ c.cy) inner near.r (focus_small x c.fx a near.fx)
      (focus_small y c.fy b near.fy)
      (apart_small c.fx c.cx near.fx near.cx)
      (apart_small c.fy c.cy near.fy near.cy)

  pub t_at_lem : floor_div (pos ramp_unit *ℤ ((place_at c x y).a +ℤ pos (isqrt (nat_abs (place_at c x y).q)))) (nat_abs (radial_d c)) ≡ radial_t c x y
  unfolding place_from place_at radial_a radial_q radial_t
  t_at_lem = rw (is_above_zero h)

  -- A + q is not negative, so t is not: a division of natural numbers gives it
  pub t_natural : radial_t c x y ≡ pos (ramp_unit * nat_abs (radial_a c x y +ℤ pos (isqrt (nat_abs (radial_q c x y)))) / nat_abs (radial_d c))
  unfolding radial_a radial_q radial_t
  t_natural =
      let u = from_focus x c.fx in
      let v = from_focus y c.fy in
      let f = c.fx -ℤ c.cx in
      let g = c.fy -ℤ c.cy in
      rw (is_above_zero h)
      (ap (λ (z : ℤ). floor_div (pos ramp_unit *ℤ z) (nat_abs (radial_d c)))
      (sum_not_negative (along u v f g) (isqrt (nat_abs (under_root c.r u v f g))) (a_below_root c.r u v f g inner)))

-- ---- no circle: every pixel has one colour
pub without_run : (g : RadialGradient) (ramp : List Stop) (x y n : ℕ) (p : Pixel) → le_z g.circle.r (pos 0) ≡ true
    → p ≡ gradient_color g.spread g.premultiply ramp (pos ramp_unit)
    → run n (λ i. p) ≡ run n (λ i. radial_at g ramp (x + i) y)
unfolding radial_t
without_run g ramp x y n p e h =
    upto_same n (λ i. bytes_of p) (λ i. bytes_of (radial_at g ramp (x + i) y)) (λ k l. ap bytes_of (h ∙ rw (not_above_zero g.circle.r e)))
