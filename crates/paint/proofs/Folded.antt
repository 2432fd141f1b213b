-- What repeat and reflect need of floor division by 65,536 and by 2, and that any other spread leaves t as it is.
use Rattle.std.proofs.Common.{◌≡◌, ℕ, ◌-◌, ◌%◌, ◌<◌, ◌≤◌, Bool, true, false, not, ◌&&◌, T, eqb, ℤ, pos, negsuc, ◌-ℤ◌, nat_abs, sym, refl, subst, mod-lt, arith}
use Rattle.fixed.specs.Floor.{floor_mod}
use Rattle.fixed.proofs.Poly as P
use Rattle.fixed.proofs.Poly.{◌⊖◌}
use Rattle.paint.specs.Gradient.{spread_repeat, spread_reflect, mapped}
use Rattle.paint.specs.Buffers.{Pads}

-- odd is odd, below zero too
pub parity : (z : ℤ) → floor_mod z 2 ≡ nat_abs z % 2
parity (pos n) = omega arith
parity (negsuc n) = omega arith

pub rest_below : (z : ℤ) (d : ℕ) → 0 < d → floor_mod z d < d
rest_below (pos n) d h = mod-lt n h
rest_below (negsuc n) d h = omega arith

-- 65,536 less what is left
pub reversed : (m : ℕ) → m ≤ 65536 → pos 65536 -ℤ pos m ≡ pos (65536 - m)
reversed m h = P.eq (P.num 65536 ⊖ P.num m) (P.num (65536 - m)) (omega arith)

-- neither repeat nor reflect
pub leaves_t : (spread : ℕ) → (not (eqb spread spread_repeat) && not (eqb spread spread_reflect)) ≡ true → Pads spread
unfolding mapped
leaves_t spread e = by (eqb spread spread_repeat) refl (eqb spread spread_reflect) refl (subst T (sym e) tt)
  where
    by : (a : Bool) → eqb spread spread_repeat ≡ a → (b : Bool) → eqb spread spread_reflect ≡ b → T (not a && not b) → Pads spread
    by true e b f h = absurd h
    by false e true f h = absurd h
    by false e false f h = record { same = λ t. rw (e, f) }
