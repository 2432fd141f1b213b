-- Where an edge's count begins, by the tests of the code.
use mathlib.Core.Path.{◌≡◌, refl, sym, subst}
use mathlib.Core.Bool.{Bool, true, false, cond}
use Prim.Native.Nat.{ℕ, ◌≤◌}
use native.Mathlib.Omega.{arith}
use lib.Dec.{T, ltb}
use Rattle.fixed.proofs.Means.{Num, small}
use lib.IntN.{ℤ, pos, negsuc, nat_abs}
use lib.Signed.{◌≤ℤ◌, lt_z_yes, clash_ℤ}
use mir.Syntax.{w32}
use mir.Val.{to_z, of_z}
use mir.Facts.{to_z-of_z}
use Rattle.fixed.proofs.Within.{fits}
use Rattle.fixed.proofs.Poly.{var, le, from_lt}
use Rattle.path.specs.declared.Edge.{Edge}
use Rattle.coverage.specs.Winding.{rises, turned, upward, spans_up, spans, sign, weight}
use Rattle.coverage.specs.Scanline.{first_column, place, start_at, start_of}
use Rattle.fixed.proofs.Tests.{is_true, is_false}
use Rattle.coverage.proofs.Sums.{span_rises}

-- a coordinate in a local is read as it is
pub clean : (z : ℤ) → nat_abs z ≤ 8388608 → to_z w32 (of_z w32 z) ≡ z
clean z h = to_z-of_z {w = w32} (fits {w = w32} {n = 8388608} {z = z} tt (record { size = h }))

module _ (c k : ℕ) (Y : ℤ) (e : Edge) where
  as_is : (t r : Bool) → rises e ≡ r → spans_up (cond r e (turned e)) Y ≡ t
      → record { at = cond t (place c k (first_column (cond r e (turned e)) Y)) k; by = cond t (cond r (pos 1) (negsuc 0)) (pos 0) } ≡ start_of c k Y e
  unfolding start_of start_at weight spans sign upward
  as_is t r p q = rw (p, q)

  pub start_up : spans_up e Y ≡ true → record { at = place c k (first_column e Y); by = pos 1 } ≡ start_of c k Y e
  start_up h = as_is true true (is_true (rises e) (span_rises e Y (subst T (sym h) tt)).lt) h

  pub start_down : spans_up (turned e) Y ≡ true → record { at = place c k (first_column (turned e) Y); by = negsuc 0 } ≡ start_of c k Y e
  start_down h = as_is true false (is_false (rises e) (λ t. clash_ℤ {a = e.y0} {b = e.y1} (lt_z_yes t) falls)) h
    where
      falls : e.y1 ≤ℤ e.y0
      falls = le (var e.y1) (var e.y0) (omega (arith, from_lt (var e.y1) (var e.y0) (span_rises (turned e) Y (subst T (sym h) tt))))

  pub start_none : spans_up e Y ≡ false → spans_up (turned e) Y ≡ false → record { at = k; by = pos 0 } ≡ start_of c k Y e
  start_none h g = by (rises e) refl
    where
      by : (r : Bool) → rises e ≡ r → record { at = k; by = pos 0 } ≡ start_of c k Y e
      by true q = as_is false true q h
      by false q = as_is false false q g

-- a number of known size that a local holds
abbrev pub sized : (n : ℕ) (z : ℤ) → T (ltb n 2147483648) → nat_abs z ≤ n → Num
sized n z t h = small w32 n z (fits {w = w32} {n = n} {z = z} t (record { size = h })) (record { size = h })
