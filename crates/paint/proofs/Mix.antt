-- Interpolation, once for every channel: each interpolated channel lies between its two stops.
use Rattle.std.proofs.Common.{◌≡◌, ℕ, suc, ◌+◌, ◌-◌, ◌*◌, ◌/◌, ◌<◌, ◌≤◌, le_refl, mul-le-mul_right, div-lt_iff_lt-mul, le_antisymm, le-div_iff_mul-le, arith}
use Rattle.paint.specs.Ramps.{mix_byte}

-- a weighted sum, with the weights a and b
weighed_above : (lo ci cj a b : ℕ) → lo ≤ ci → lo ≤ cj → lo * (a + b) ≤ ci * a + cj * b
weighed_above lo ci cj a b h k = omega (arith, mul-le-mul_right a h, mul-le-mul_right b k)

weighed_below : (hi ci cj a b : ℕ) → ci ≤ hi → cj ≤ hi → ci * a + cj * b ≤ hi * (a + b)
weighed_below hi ci cj a b h k = omega (arith, mul-le-mul_right a h, mul-le-mul_right b k)

rounded_above : (lo z d : ℕ) → 0 < d → lo * d ≤ z → lo ≤ (z + d / 2) / d
rounded_above lo z d h k = (le-div_iff_mul-le h).1 (omega arith)

rounded_below : (hi z d : ℕ) → 0 < d → z ≤ hi * d → (z + d / 2) / d ≤ hi
rounded_below hi z d h k =
    let l : (z + d / 2) / d < suc hi = (div-lt_iff_lt-mul h).1 (omega arith) in
    omega arith

module _ (xi xj t ci cj : ℕ) (from : xi ≤ t) (to : t < xj) where
  whole : xj - xi ≡ (xj - t) + (t - xi)
  whole = omega arith

  pub mix_above : (lo : ℕ) → lo ≤ ci → lo ≤ cj → lo ≤ mix_byte xi xj t ci cj
  mix_above lo h k = rounded_above lo (ci * (xj - t) + cj * (t - xi)) (xj - xi) (omega arith) (rw whole (weighed_above lo ci cj (xj - t) (t - xi) h k))

  pub mix_below : (hi : ℕ) → ci ≤ hi → cj ≤ hi → mix_byte xi xj t ci cj ≤ hi
  mix_below hi h k = rounded_below hi (ci * (xj - t) + cj * (t - xi)) (xj - xi) (omega arith) (rw whole (weighed_below hi ci cj (xj - t) (t - xi) h k))

  -- between equal channels there is nothing to mix
  pub mix_same : ci ≡ cj → mix_byte xi xj t ci cj ≡ ci
  mix_same e = le_antisymm (mix_below ci (le_refl ci) (omega arith)) (mix_above ci (le_refl ci) (omega arith))
