-- From pixel to pixel of a row: what a loop over a radial gradient's pixels keeps, and what it has at each of them.
use Rattle.std.proofs.Common.{◌≡◌, ℕ, zero, suc, ◌+◌, ◌<◌, ◌≤◌, true, List, [], ◌∷◌, length, set, ℤ, pos, ◌+ℤ◌, ◌*ℤ◌, nat_abs, ◌<ℤ◌, refl, ap, ◌∙◌, arith}
use Rattle.std.proofs.Common.{length-set, w64, to_z, of_z}
use Rattle.lists.specs.Lists.{tab, over}
use Rattle.lists.proofs.Laws.{upto_same, tab_turn, tab_all}
use Rattle.fixed.specs.Floor.{floor_div}
use Rattle.fixed.specs.Roots.{isqrt}
use Rattle.fixed.proofs.Signed.{clean}
use Rattle.paint.specs.Gradient.{ramp_unit}
use Rattle.paint.specs.Radial.{radial_d, radial_t, focal_allowed}
use Rattle.paint.specs.Circles.{LimitedCircle, ModeratePlace, place_at, next_place}
use Rattle.paint.specs.declared.Circle.{Circle}
use Rattle.paint.specs.declared.Place.{Place}
use Rattle.paint.proofs.Sizes.{still_sized}
use Rattle.paint.proofs.Focal.{Rooted, at_rooted, at_near, t_at_lem}
use Rattle.paint.proofs.Differences.{next_place_lem}

-- the place i pixels on
unfoldable pub place_on : Place → ℕ → Place
place_on p zero = p
place_on p (suc i) = next_place (place_on p i)

on_row : (c : Circle) (x y i : ℕ) (p : Place) → p ≡ place_at c x y → place_on p i ≡ place_at c (x + i) y
unfolding place_on
on_row c x y zero p e = let f : x + 0 ≡ x = omega arith in rw f e
on_row c x y (suc i) p e = let f : x + suc i ≡ x + i + 1 = omega arith in rw f (ap next_place (on_row c x y i p e) ∙ next_place_lem c (x + i) y)

-- t at a place, over D
unfoldable pub place_t : Place → ℕ → ℤ
place_t p d = floor_div (pos ramp_unit *ℤ (p.a +ℤ pos (isqrt (nat_abs p.q)))) d

-- ---- the loop: i pixels from a first one on, f of their t is stored
pub record Walked (f : ℤ → ℕ) (d : ℕ) (first : Place) (before : List ℕ) (i : ℕ) (p : Place) (ks : List ℕ) : Type 0 where
  pub few : i ≤ length before
  pub long : length ks ≡ length before
  pub place : p ≡ place_on first i
  pub stored : ks ≡ over (tab i (λ k. f (place_t (place_on first k) d))) before

module _ (f : ℤ → ℕ) (d : ℕ) (first : Place) (before : List ℕ) where
  pub walk_begins : Walked f d first before 0 first before
  unfolding place_on
  walk_begins = record { few = omega arith; long = refl; place = refl; stored = refl }

  module _ (i : ℕ) (p : Place) (ks : List ℕ) (w : Walked f d first before i p ks) where
    pub walk_turns : (k : ℕ) (next : Place) → i < length before → k ≡ f (place_t p d) → next ≡ next_place p
        → Walked f d first before (i + 1) next (set ks i k)
    unfolding place_on
    walk_turns k next h e g =
        let one : i + 1 ≡ suc i = omega arith in
        record {
          few = omega arith;
          long = simp length-set w.long;
          place = rw one (g ∙ ap next_place w.place);
          stored = tab_turn (λ k. f (place_t (place_on first k) d)) ks before i k (e ∙ ap (λ (p : Place). f (place_t p d)) w.place) w.stored h;
        }

    pub walk_ends : (c : Circle) (x y : ℕ) → LimitedCircle c → focal_allowed c ≡ true → pos 0 <ℤ c.r → first ≡ place_at c x y → d ≡ nat_abs (radial_d c)
        → i ≡ length before → ks ≡ tab (length before) (λ k. f (radial_t c (x + k) y))
    unfolding place_t
    walk_ends c x y near allowed h e g l =
        tab_all (λ k. f (place_t (place_on first k) d)) ks before i (length before) w.stored l refl
        ∙ upto_same (length before) _ _
        (λ k m. ap (λ (t : ℤ). f t ∷ []) (rw (on_row c x y k first e, g) (t_at_lem c near allowed h (x + k) y)))

-- ---- a place of which the numbers fit, and the root is as it is asked for
pub record Held (p : Place) : Type 0 where
  pub moderate : ModeratePlace p
  pub rooted : Rooted p

module _ (c : Circle) (near : LimitedCircle c) (allowed : focal_allowed c ≡ true) (h : pos 0 <ℤ c.r) (y : ℕ) (b : y ≤ 1024) where
  pub held_at : (x : ℕ) (p : Place) → x ≤ 1024 → p ≡ place_at c x y → Held p
  held_at x p a e = record { moderate = rw e (at_near c near allowed h x y a b); rooted = rw e (at_rooted c near allowed h x y a b) }

  pub held_on : (x : ℕ) (first p : Place) (i : ℕ) → x + i ≤ 1024 → first ≡ place_at c x y → p ≡ place_on first i → Held p
  held_on x first p i a e g = held_at (x + i) p a (g ∙ on_row c x y i first e)

module _ (p : Place) (h : Held p) where
  a_is : to_z w64 (of_z w64 p.a) ≡ p.a
  a_is = clean w64 2305843009213693952 p.a tt h.moderate.a

  q_is : to_z w64 (of_z w64 p.q) ≡ p.q
  q_is = clean w64 2305843009213693952 p.q tt h.moderate.q

  -- what its root asks, and the root
  -- what a guess of roots asks
  pub asks_guess : (nat_abs (to_z w64 (of_z w64 p.q)) ≤ 2305843009213693952) × (nat_abs (to_z w64 (of_z w64 p.dq)) ≤ 2305843009213693952)
      × (nat_abs (to_z w64 (of_z w64 p.ddq)) ≤ 2305843009213693952)
  asks_guess =
      let b : ℕ = 2305843009213693952 in
      let m = h.moderate in
      (still_sized b p.q tt m.q, still_sized b p.dq tt m.dq, still_sized b p.ddq tt m.ddq)

  pub asks_root : let q = to_z w64 (of_z w64 p.q) in (q ≡ pos (nat_abs q)) × (nat_abs q < 1152921504606846976)
  asks_root = rw q_is (h.rooted.natural, h.rooted.small)

  module _ (r : ℕ) (e : r ≡ isqrt (nat_abs (to_z w64 (of_z w64 p.q)))) where
    root_is : r ≡ isqrt (nat_abs p.q)
    root_is = e ∙ ap (λ (z : ℤ). isqrt (nat_abs z)) q_is

    -- what A + q asks
    pub asks_sum : (nat_abs (to_z w64 (of_z w64 p.a)) ≤ r) × (r ≤ 1073741824)
    asks_sum = rw (a_is, root_is) (h.rooted.above, h.rooted.root)

    -- t of them
    pub sum_t : (d : ℕ) → floor_div (pos ramp_unit *ℤ (to_z w64 (of_z w64 p.a) +ℤ pos r)) d ≡ place_t p d
    unfolding place_t
    sum_t d = rw (a_is, root_is)
