-- An edge right of a window begins nothing in it.
use mathlib.Core.Path.{◌≡◌, sym, ap, subst, ◌∙◌}
use mathlib.Core.List.{List, [], ◌∷◌, ◌++◌}
use mathlib.Core.Bool.{true, cond}
use Prim.Native.Nat.{ℕ, zero, suc, ◌+◌, ◌*◌, ◌/◌, ◌%◌, ◌<◌}
use native.Mathlib.Omega.{arith}
use lib.Dec.{T, eqb}
use lib.IntN.{ℤ, pos, ◌+ℤ◌, +ℤ_idl, +ℤ_idr}
use lib.Signed.{le_z, ◌<ℤ◌, le_z_yes}
use Rattle.fixed.proofs.Poly.{var, num, lt, from_le}
use Rattle.fixed.proofs.Tests.{both_left, both_right}
use Rattle.path.specs.declared.Edge.{Edge}
use Rattle.outline.proofs.Every.{none, more}
use Rattle.coverage.specs.Winding.{weight, sum_of, sample}
use Rattle.coverage.specs.Scanline.{start_at, starts, running, sums_at, beyond}
use Rattle.coverage.proofs.Sums.{sum_more, running_starts}
use Rattle.coverage.proofs.Sides.{left_wind}

module _ (c k : ℕ) (e : Edge) (q : beyond e.x0 e.x1 (c + k) ≡ true) where
  tests : T (beyond e.x0 e.x1 (c + k))
  tests = subst T (sym q) tt

  left : (x : ℤ) → T (le_z (pos (64 * (c + k))) x) → (j : ℕ) → j < k → sample (c + j) <ℤ x
  left x t j h = lt (num (64 * (c + j) + 32)) (var x) (omega (arith, from_le (num (64 * (c + k))) (var x) (le_z_yes t)))

  module _ (Y : ℤ) where
    none_running : (j : ℕ) → j < k → running (starts c k Y (e ∷ [])) (suc j) ≡ pos 0
    none_running j h =
        running_starts c k Y (e ∷ []) j h
        ∙ left_wind (sample (c + j)) Y
        (more (
          left e.x0 (both_left (le_z (pos (64 * (c + k))) e.x0) (le_z (pos (64 * (c + k))) e.x1) tests) j h,
          left e.x1 (both_right (le_z (pos (64 * (c + k))) e.x0) (le_z (pos (64 * (c + k))) e.x1) tests) j h,
        ) none)

    none_begins : (j : ℕ) → j < k → starts c k Y (e ∷ []) j ≡ pos 0
    none_begins zero h = sym (+ℤ_idl (starts c k Y (e ∷ []) zero)) ∙ none_running zero h
    none_begins (suc j) h =
        sym (+ℤ_idl (starts c k Y (e ∷ []) (suc j))) ∙ ap (λ (z : ℤ). z +ℤ starts c k Y (e ∷ []) (suc j)) (sym (none_running j (omega arith)))
        ∙ none_running (suc j) h

    same_starts : (es : List Edge) (j : ℕ) → j < k → starts c k Y es j ≡ starts c k Y (es ++ (e ∷ [])) j
    unfolding starts
    same_starts es j h =
        let f : Edge → ℤ = λ d. cond (eqb (start_at c k Y d) j) (weight Y d) (pos 0) in
        sym (+ℤ_idr (sum_of f es)) ∙ ap (λ (z : ℤ). sum_of f es +ℤ z) (sym (sym (+ℤ_idr (f e)) ∙ none_begins j h)) ∙ sym (sum_more f es e)

  pub beyond_more : (y : ℕ) (es : List Edge) (i : ℕ) → i / 4 < k → sums_at c k y es i ≡ sums_at c k y (es ++ (e ∷ [])) i
  beyond_more y es i = same_starts (sample (4 * y + i % 4)) es (i / 4)
