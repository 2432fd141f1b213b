-- dx² + dy² is not negative, and 0 only where the points coincide. Where their x is the same, t is the same along a row.
use Rattle.std.proofs.Common.{◌≡◌, ℕ, zero, suc, ◌+◌, ◌*◌, ◌<◌, cond, eqb, ℤ, pos, negsuc, ◌+ℤ◌, ◌-ℤ◌, ◌*ℤ◌, nat_abs, ◌<ℤ◌, sym, refl, ap, ◌∙◌, ap₂, arith}
use Rattle.std.proofs.Common.{lt→ltb}
use Rattle.fixed.specs.Floor.{floor_div}
use Rattle.fixed.proofs.Poly as P
use Rattle.fixed.proofs.Poly.{◌⊕◌, ◌⊖◌, ◌⊗◌}
use Rattle.paint.specs.Gradient.{ramp_unit, centre, squared_length, linear_t}
use Rattle.paint.specs.declared.FixedPoints.{FixedPoints}

square_is : (z : ℤ) → z *ℤ z ≡ pos (nat_abs z * nat_abs z)
square_is (pos n) = refl
square_is (negsuc n) = refl

pub squared_is : (p : FixedPoints)
    → squared_length p ≡ pos (nat_abs (p.x1 -ℤ p.x0) * nat_abs (p.x1 -ℤ p.x0) + nat_abs (p.y1 -ℤ p.y0) * nat_abs (p.y1 -ℤ p.y0))
squared_is p = ap₂ ◌+ℤ◌ (square_is (p.x1 -ℤ p.x0)) (square_is (p.y1 -ℤ p.y0))

-- a sum of squares that is not 0 is above it
pub above : {z : ℤ} {n : ℕ} → z ≡ pos n → (nat_abs z ≡ 0 → ⊥) → pos 0 <ℤ z
above {z = pos n} e h = record { lt = lt→ltb 0 n (some n h) }
  where
    some : (n : ℕ) → (n ≡ 0 → ⊥) → 0 < n
    some zero h = absurd (h refl)
    some (suc n) h = omega arith
above {z = negsuc n} e h = absurd (never e)
  where
    never : {m : ℕ} → negsuc n ≡ pos m → ⊥
    never e = let z : ◌≡◌ {A = ℕ} 0 1 = cc in omega arith

-- ---- points with one x
nothing : (z : ℤ) → nat_abs z ≡ 0 → z ≡ pos 0
nothing (pos n) e = ap pos e
nothing (negsuc n) e = absurd (omega arith)

no_square : (a b : ℕ) → a * a + b * b ≡ 0 → a ≡ 0
no_square zero b e = refl
no_square (suc a) b e = absurd (omega arith)

-- points that coincide have one x
pub one_x : (p : FixedPoints) → nat_abs (squared_length p) ≡ 0 → p.x0 ≡ p.x1
one_x p e =
    let z = nothing (p.x1 -ℤ p.x0) (no_square (nat_abs (p.x1 -ℤ p.x0)) (nat_abs (p.y1 -ℤ p.y0)) (sym (ap nat_abs (squared_is p)) ∙ e)) in
    P.eq (P.var p.x0) (P.var p.x1) (omega (arith, P.from_eq (P.var p.x1 ⊖ P.var p.x0) (P.num 0) z))

same_projection : (dx a b rest : ℤ) → dx ≡ pos 0 → dx *ℤ a +ℤ rest ≡ dx *ℤ b +ℤ rest
same_projection dx a b rest e = rw e (P.eq (P.num 0 ⊗ P.var a ⊕ P.var rest) (P.num 0 ⊗ P.var b ⊕ P.var rest) (omega arith))

-- where the points have one x, so has a row one t
pub one_t : (p : FixedPoints) → p.x0 ≡ p.x1 → (x u y : ℕ) → linear_t p x y ≡ linear_t p u y
unfolding linear_t
one_t p e x u y =
    let z : p.x1 -ℤ p.x0 ≡ pos 0 = P.eq (P.var p.x1 ⊖ P.var p.x0) (P.num 0) (omega (arith, P.from_eq (P.var p.x0) (P.var p.x1) e)) in
    ap (λ (n : ℤ). cond (eqb (nat_abs (squared_length p)) 0) (pos ramp_unit) (floor_div (pos ramp_unit *ℤ n) (nat_abs (squared_length p))))
    (same_projection (p.x1 -ℤ p.x0) (centre x -ℤ p.x0) (centre u -ℤ p.x0) ((p.y1 -ℤ p.y0) *ℤ (centre y -ℤ p.y0)) z)
