-- A and Q from pixel to pixel of a row: A grows by 16 f, and what Q grows by grows by 512 (r² - g²).
use Rattle.std.proofs.Common.{◌≡◌, ℕ, ◌+◌, ◌*◌, ℤ, pos, ◌+ℤ◌, ◌-ℤ◌, ◌*ℤ◌, ap, ◌∙◌, ap₂, arith}
use Rattle.fixed.proofs.Poly.{var, num, eq, ◌⊕◌, ◌⊖◌, ◌⊗◌}
use Rattle.paint.specs.Radial.{along, under_root, from_focus}
use Rattle.paint.specs.Circles.{place_from, place_at, next_place}
use Rattle.paint.specs.declared.Circle.{Circle}

next_focus : (x : ℕ) (f : ℤ) → from_focus (x + 1) f ≡ from_focus x f +ℤ pos 16
next_focus x f = eq (num (16 * (x + 1) + 8) ⊖ var f) (num (16 * x + 8) ⊖ var f ⊕ num 16) (omega arith)

next_along : (u v f g : ℤ) → along u v f g +ℤ pos 16 *ℤ f ≡ along (u +ℤ pos 16) v f g
next_along u v f g = eq (var u ⊗ var f ⊕ var v ⊗ var g ⊕ num 16 ⊗ var f) ((var u ⊕ num 16) ⊗ var f ⊕ var v ⊗ var g) (omega arith)

difference_added : (a b : ℤ) → a +ℤ (b -ℤ a) ≡ b
difference_added a b = eq (var a ⊕ (var b ⊖ var a)) (var b) (omega arith)

-- ---- Q as a polynomial of dx, a dx² + b dx + c, and its second difference
quadratic : ℤ → ℤ → ℤ → ℤ → ℤ
quadratic a b c u = a *ℤ (u *ℤ u) +ℤ b *ℤ u +ℤ c

second : (a b c u : ℤ)
    → (quadratic a b c (u +ℤ pos 16) -ℤ quadratic a b c u) +ℤ pos 512 *ℤ a ≡ quadratic a b c (u +ℤ pos 16 +ℤ pos 16) -ℤ quadratic a b c (u +ℤ pos 16)
unfolding quadratic
second a b c u =
    eq
    ((var a ⊗ ((var u ⊕ num 16) ⊗ (var u ⊕ num 16)) ⊕ var b ⊗ (var u ⊕ num 16) ⊕ var c)
    ⊖ (var a ⊗ (var u ⊗ var u) ⊕ var b ⊗ var u ⊕ var c)
    ⊕ num 512 ⊗ var a)
    ((var a ⊗ ((var u ⊕ num 16 ⊕ num 16) ⊗ (var u ⊕ num 16 ⊕ num 16)) ⊕ var b ⊗ (var u ⊕ num 16 ⊕ num 16) ⊕ var c)
    ⊖ (var a ⊗ ((var u ⊕ num 16) ⊗ (var u ⊕ num 16)) ⊕ var b ⊗ (var u ⊕ num 16) ⊕ var c))
    (omega arith)

-- the bracket's square, by its products
of_difference : (t w : ℤ) → (t -ℤ w) *ℤ (t -ℤ w) ≡ t *ℤ t -ℤ pos 2 *ℤ (t *ℤ w) +ℤ w *ℤ w
of_difference t w = eq ((var t ⊖ var w) ⊗ (var t ⊖ var w)) (var t ⊗ var t ⊖ num 2 ⊗ (var t ⊗ var w) ⊕ var w ⊗ var w) (omega arith)

square_first : (u g : ℤ) → (u *ℤ g) *ℤ (u *ℤ g) ≡ (g *ℤ g) *ℤ (u *ℤ u)
square_first u g = eq ((var u ⊗ var g) ⊗ (var u ⊗ var g)) ((var g ⊗ var g) ⊗ (var u ⊗ var u)) (omega arith)

last_out : (u g w : ℤ) → pos 2 *ℤ ((u *ℤ g) *ℤ w) ≡ (pos 2 *ℤ (g *ℤ w)) *ℤ u
last_out u g w = eq (num 2 ⊗ ((var u ⊗ var g) ⊗ var w)) ((num 2 ⊗ (var g ⊗ var w)) ⊗ var u) (omega arith)

across_square : (u g w : ℤ) → (u *ℤ g -ℤ w) *ℤ (u *ℤ g -ℤ w) ≡ (g *ℤ g) *ℤ (u *ℤ u) -ℤ (pos 2 *ℤ (g *ℤ w)) *ℤ u +ℤ w *ℤ w
across_square u g w = of_difference (u *ℤ g) w ∙ ap₂ (λ (a b : ℤ). a -ℤ b +ℤ w *ℤ w) (square_first u g) (last_out u g w)

gathered : (R U N H k u e : ℤ) → R *ℤ (U +ℤ N) -ℤ (H *ℤ U -ℤ k *ℤ u +ℤ e) ≡ (R -ℤ H) *ℤ U +ℤ k *ℤ u +ℤ (R *ℤ N -ℤ e)
gathered R U N H k u e =
    eq (var R ⊗ (var U ⊕ var N) ⊖ (var H ⊗ var U ⊖ var k ⊗ var u ⊕ var e)) ((var R ⊖ var H) ⊗ var U ⊕ var k ⊗ var u ⊕ (var R ⊗ var N ⊖ var e)) (omega arith)

as_quadratic : (r u v f g : ℤ)
    → under_root r u v f g ≡ quadratic (r *ℤ r -ℤ g *ℤ g) (pos 2 *ℤ (g *ℤ (v *ℤ f))) (r *ℤ r *ℤ (v *ℤ v) -ℤ (v *ℤ f) *ℤ (v *ℤ f)) u
unfolding quadratic
as_quadratic r u v f g =
    ap (λ (z : ℤ). r *ℤ r *ℤ (u *ℤ u +ℤ v *ℤ v) -ℤ z) (across_square u g (v *ℤ f))
    ∙ gathered (r *ℤ r) (u *ℤ u) (v *ℤ v) (g *ℤ g) (pos 2 *ℤ (g *ℤ (v *ℤ f))) u ((v *ℤ f) *ℤ (v *ℤ f))

next_difference : (r u v f g : ℤ)
    → (under_root r (u +ℤ pos 16) v f g -ℤ under_root r u v f g) +ℤ pos 512 *ℤ (r *ℤ r -ℤ g *ℤ g)
    ≡ under_root r (u +ℤ pos 16 +ℤ pos 16) v f g -ℤ under_root r (u +ℤ pos 16) v f g
next_difference r u v f g =
    rw (as_quadratic r (u +ℤ pos 16 +ℤ pos 16) v f g, as_quadratic r (u +ℤ pos 16) v f g, as_quadratic r u v f g)
    (second (r *ℤ r -ℤ g *ℤ g) (pos 2 *ℤ (g *ℤ (v *ℤ f))) (r *ℤ r *ℤ (v *ℤ v) -ℤ (v *ℤ f) *ℤ (v *ℤ f)) u)

-- ---- a place and the next
from_next : (r u v f g : ℤ) → next_place (place_from r u v f g) ≡ place_from r (u +ℤ pos 16) v f g
unfolding place_from
from_next r u v f g = λ i. record {
  a = next_along u v f g i;
  q = difference_added (under_root r u v f g) (under_root r (u +ℤ pos 16) v f g) i;
  dq = next_difference r u v f g i;
  da = pos 16 *ℤ f;
  ddq = pos 512 *ℤ (r *ℤ r -ℤ g *ℤ g);
}

pub next_place_lem : (c : Circle) (x y : ℕ) → next_place (place_at c x y) ≡ place_at c (x + 1) y
unfolding place_at
next_place_lem c x y =
    let f = c.fx -ℤ c.cx in
    let g = c.fy -ℤ c.cy in
    from_next c.r (from_focus x c.fx) (from_focus y c.fy) f g ∙ rw (next_focus x c.fx)
