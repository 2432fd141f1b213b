-- The size of a scaled float, by the limit that the float keeps.
use mathlib.Core.Path.{◌≡◌, refl, sym, ap, ◌∙◌, subst}
use mathlib.Core.Bool.{true, false}
use Prim.Native.Nat.{ℕ, ◌*◌, ◌≤◌, ◌<◌}
use native.Mathlib.Nat.{le_of_eq, le_trans, mul-le-mul_left, mul-le-mul_right, mul_assoc, one-mul, mul-one}
use native.Mathlib.Omega.{arith}
use borrow.Author.Tests.{le-leb}
use lib.Dec.{T, leb, leb→le, lit≤}
use lib.IntN.{ℤ, pos, nat_abs}
use lib.Ieee.{Float, nan, inf, fin, up, down}
use lib.Ieee.Fits.{down_pos}
use Rattle.fixed.specs.Floats.{scaled, at_most, in_unit, nearest_of}
use Rattle.fixed.proofs.Nearest.{nearest_zero, nearest_size}

pub scaled_size : (scale limit : ℕ) (v : Float) → at_most limit v ≡ true → nat_abs (scaled scale v) ≤ scale * limit
scaled_size scale limit nan h = absurd (subst T (sym h) tt)
scaled_size scale limit (inf s) h = absurd (subst T (sym h) tt)
scaled_size scale limit (fin s m e) h =
    nearest_size s (scale * (m * up e)) (down e) (scale * limit) (down_pos e)
    (le_trans (mul-le-mul_left scale (leb→le (m * up e) (limit * down e) (subst T (sym h) tt))) (le_of_eq (sym (mul_assoc scale limit (down e)))))

-- a limit is kept by what keeps a smaller one
pub limit_raised : (a b : ℕ) (v : Float) → a ≤ b → at_most a v ≡ true → at_most b v ≡ true
limit_raised a b nan l h = h
limit_raised a b (inf s) l h = h
limit_raised a b (fin s m e) l h =
    le-leb (m * up e) (b * down e) (le_trans (leb→le (m * up e) (a * down e) (subst T (sym h) tt)) (mul-le-mul_right (down e) l))

-- ---- from 0 to 1, the scaled float is from 0 to the scale
unit_kept : (v : Float) → in_unit v ≡ true → at_most 1 v ≡ true
unit_kept nan h = h
unit_kept (inf s) h = h
unit_kept (fin false m e) h = ap (leb (m * up e)) (one-mul (down e)) ∙ h
unit_kept (fin true m e) h = le-leb (m * up e) (1 * down e) (omega (arith, leb→le (m * up e) 0 (subst T (sym h) tt)))

pub unit_limited : (v : Float) → in_unit v ≡ true → at_most 32768 v ≡ true
unit_limited v h = limit_raised 1 32768 v (lit≤ tt) (unit_kept v h)

pub unit_size : (scale : ℕ) (v : Float) → in_unit v ≡ true → nat_abs (scaled scale v) ≤ scale
unit_size scale v h = le_trans (scaled_size scale 1 v (unit_kept v h)) (le_of_eq (mul-one scale))

pub unit_nonneg : (scale : ℕ) (v : Float) → in_unit v ≡ true → scaled scale v ≡ pos (nat_abs (scaled scale v))
unit_nonneg scale nan h = refl
unit_nonneg scale (inf s) h = refl
unit_nonneg scale (fin false m e) h = refl
unit_nonneg scale (fin true m e) h = sym none ∙ ap (λ (y : ℤ). pos (nat_abs y)) none
  where
    le_zero : (x : ℕ) → x ≤ 0 → x ≡ 0
    le_zero x l = omega arith

    none : pos 0 ≡ nearest_of true (scale * (m * up e)) (down e)
    none =
        nearest_zero true (scale * (m * up e)) (down e)
        (subst (λ (x : ℕ). 2 * (scale * x) < down e) (sym (le_zero (m * up e) (leb→le (m * up e) 0 (subst T (sym h) tt)))) (omega (arith, down_pos e)))
