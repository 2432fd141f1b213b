-- A closed path's weights cancel: an edge's weight in a row is [y0 ≤ Y] - [y1 ≤ Y].
use mathlib.Core.Path.{◌≡◌, refl, ap, ap₂, ◌∙◌}
use mathlib.Core.List.{List, [], ◌∷◌}
use mathlib.Core.Bool.{Bool, true, false, not, cond, ◌&&◌}
use native.Mathlib.Omega.{arith}
use lib.Dec.{T}
use lib.IntN.{ℤ, pos, negsuc, ◌+ℤ◌, ◌-ℤ◌}
use lib.Signed.{le_z, le_z_yes, lt_z_yes, lt_z_no}
use Rattle.fixed.proofs.Poly.{var, le, from_le, from_lt}
use Rattle.path.specs.declared.Edge.{Edge}
use Rattle.path.specs.Closed.{Closed, fall}
use Rattle.coverage.proofs.Crossing.{above}
use Rattle.coverage.specs.Winding.{rises, turned, upward, spans_up, spans, sign, sum_of, weight}

-- 1 where y is at or below Y
abbrev pub below : ℤ → ℤ → ℤ
below Y y = cond (le_z y Y) (pos 1) (pos 0)

-- four flags: does it rise, and are its ends at or below
core : (r a b : Bool) → (T r → T b → T a) → (T (not r) → T a → T b)
    → cond (cond r (a && not b) (b && not a)) (cond r (pos 1) (negsuc 0)) (pos 0) ≡ cond a (pos 1) (pos 0) -ℤ cond b (pos 1) (pos 0)
core true true true f g = refl
core true true false f g = refl
core true false true f g = absurd (f tt tt)
core true false false f g = refl
core false true true f g = refl
core false true false f g = absurd (g tt tt)
core false false true f g = refl
core false false false f g = refl

flags : (e : Edge) (Y : ℤ) (r : Bool) → spans_up (cond r e (turned e)) Y ≡ cond r (le_z e.y0 Y && not (le_z e.y1 Y)) (le_z e.y1 Y && not (le_z e.y0 Y))
flags e Y true = ap (λ (t : Bool). le_z e.y0 Y && t) (above e.y1 Y)
flags e Y false = ap (λ (t : Bool). le_z e.y1 Y && t) (above e.y0 Y)

pub weight_law : (e : Edge) (Y : ℤ) → weight Y e ≡ below Y e.y0 -ℤ below Y e.y1
unfolding weight spans upward sign
weight_law e Y =
    ap (λ (t : Bool). cond t (cond (rises e) (pos 1) (negsuc 0)) (pos 0)) (flags e Y (rises e))
    ∙ core (rises e) (le_z e.y0 Y) (le_z e.y1 Y) up down
  where
    up : T (rises e) → T (le_z e.y1 Y) → T (le_z e.y0 Y)
    up h k = (le (var e.y0) (var Y) (omega (arith, from_lt (var e.y0) (var e.y1) (lt_z_yes h), from_le (var e.y1) (var Y) (le_z_yes k)))).le

    down : T (not (rises e)) → T (le_z e.y0 Y) → T (le_z e.y1 Y)
    down h k = (le (var e.y1) (var Y) (omega (arith, from_le (var e.y1) (var e.y0) (lt_z_no h), from_le (var e.y0) (var Y) (le_z_yes k)))).le

-- a closed path's weights cancel in each row
fall_of_below : (Y : ℤ) (es : List Edge) → sum_of (weight Y) es ≡ fall (λ x y. below Y y) es
fall_of_below Y [] = refl
fall_of_below Y (e ∷ es) = ap₂ ◌+ℤ◌ (weight_law e Y) (fall_of_below Y es)

pub closed_path_cancels : {es : List Edge} → Closed es → (Y : ℤ) → sum_of (weight Y) es ≡ pos 0
closed_path_cancels {es} c Y = fall_of_below Y es ∙ c.none (λ x y. below Y y)
