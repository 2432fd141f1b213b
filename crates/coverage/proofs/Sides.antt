-- An edge that lies on one side of a sample, and a path all of whose edges do.
use mathlib.Core.Path.{◌≡◌, refl, sym, ap, ap₂, subst, ◌∙◌}
use mathlib.Core.List.{List}
use mathlib.Core.Bool.{Bool, true, false, cond}
use Prim.Native.Nat.{◌*◌}
use native.Mathlib.Nat.{mul-pos}
use native.Mathlib.Omega.{arith}
use lib.Dec.{T, ltb→lt, lt→ltb}
use lib.IntN.{ℤ, pos, negsuc, ◌+ℤ◌, ◌-ℤ◌, ◌*ℤ◌}
use lib.Signed.{le_z, lt_z, ◌≤ℤ◌, ◌<ℤ◌, le_z_yes, lt_z_yes, clash_ℤ}
use Rattle.fixed.proofs.Poly.{var, num, ◌⊖◌, ◌⊗◌, le, lt, from_le, from_lt}
use Rattle.fixed.proofs.Tests.{is_true, is_false, both_left, both_right}
use Rattle.path.specs.declared.Edge.{Edge}
use Rattle.path.specs.Closed.{Closed}
use Rattle.outline.proofs.Every.{Every, none, more}
use Rattle.coverage.specs.Winding.{rises, turned, upward, spans_up, left_up, spans, at_or_left, sign, sum_of, weight, counts, winding}
use Rattle.coverage.proofs.Telescope.{weight_law, closed_path_cancels}

-- ---- what holds of every edge
pub every_map : {P Q : Edge → Type 0} {es : List Edge} → ((e : Edge) → P e → Q e) → Every P es → Every Q es
every_map f none = none
every_map f (more {x = e} p r) = more (f e p) (every_map f r)

sum_none : {f : Edge → ℤ} {es : List Edge} → Every (λ e. f e ≡ pos 0) es → sum_of f es ≡ pos 0
sum_none none = refl
sum_none (more p r) = ap₂ ◌+ℤ◌ p (sum_none r)

sum_same : {f g : Edge → ℤ} {es : List Edge} → Every (λ e. f e ≡ g e) es → sum_of f es ≡ sum_of g es
sum_same none = refl
sum_same (more p r) = ap₂ ◌+ℤ◌ p (sum_same r)

-- ---- one edge that spans the row
product : (a b : ℤ) → pos 0 <ℤ a → pos 0 <ℤ b → pos 0 <ℤ (a *ℤ b)
product (pos a) (pos b) h k = record { lt = lt→ltb 0 (a * b) (mul-pos (ltb→lt 0 a h.lt) (ltb→lt 0 b k.lt)) }
product (pos a) (negsuc b) h k = absurd k.lt
product (negsuc a) b h k = absurd h.lt

pub product_le : (a b : ℤ) → pos 0 ≤ℤ a → pos 0 ≤ℤ b → pos 0 ≤ℤ (a *ℤ b)
product_le (pos a) (pos b) h k = le (num 0) (num (a * b)) (omega arith)
product_le (pos a) (negsuc b) h k = absurd k.le
product_le (negsuc a) b h k = absurd h.le

module _ (u : Edge) (X Y : ℤ) (s : T (spans_up u Y)) where
  lower : pos 0 ≤ℤ (Y -ℤ u.y0)
  lower = le (num 0) (var Y ⊖ var u.y0) (omega (arith, from_le (var u.y0) (var Y) (le_z_yes (both_left (le_z u.y0 Y) (lt_z Y u.y1) s))))

  upper : pos 0 <ℤ (u.y1 -ℤ Y)
  upper = lt (num 0) (var u.y1 ⊖ var Y) (omega (arith, from_lt (var Y) (var u.y1) (lt_z_yes (both_right (le_z u.y0 Y) (lt_z Y u.y1) s))))

  not_left : X <ℤ u.x0 → X <ℤ u.x1 → T (left_up u X Y) → ⊥
  not_left h k t =
      let a : pos 0 <ℤ (u.x0 -ℤ X) = lt (num 0) (var u.x0 ⊖ var X) (omega (arith, from_lt (var X) (var u.x0) h)) in
      let b : pos 0 ≤ℤ (u.x1 -ℤ X) = le (num 0) (var u.x1 ⊖ var X) (omega (arith, from_lt (var X) (var u.x1) k)) in
      omega (
        arith,
        from_lt (num 0) ((var u.x0 ⊖ var X) ⊗ (var u.y1 ⊖ var Y)) (product (u.x0 -ℤ X) (u.y1 -ℤ Y) a upper),
        from_le (num 0) ((var u.x1 ⊖ var X) ⊗ (var Y ⊖ var u.y0)) (product_le (u.x1 -ℤ X) (Y -ℤ u.y0) b lower),
        from_le ((var Y ⊖ var u.y0) ⊗ (var u.x1 ⊖ var u.x0)) ((var X ⊖ var u.x0) ⊗ (var u.y1 ⊖ var u.y0)) (le_z_yes t),
      )

  is_left : u.x0 ≤ℤ X → u.x1 ≤ℤ X → T (left_up u X Y)
  is_left h k =
      let a : pos 0 ≤ℤ (X -ℤ u.x0) = le (num 0) (var X ⊖ var u.x0) (omega (arith, from_le (var u.x0) (var X) h)) in
      let b : pos 0 ≤ℤ (X -ℤ u.x1) = le (num 0) (var X ⊖ var u.x1) (omega (arith, from_le (var u.x1) (var X) k)) in
      let c : pos 0 ≤ℤ (u.y1 -ℤ Y) = le (num 0) (var u.y1 ⊖ var Y) (omega (arith, from_lt (num 0) (var u.y1 ⊖ var Y) upper)) in
      (le ((var Y ⊖ var u.y0) ⊗ (var u.x1 ⊖ var u.x0)) ((var X ⊖ var u.x0) ⊗ (var u.y1 ⊖ var u.y0))
      (omega (
        arith,
        from_le (num 0) ((var X ⊖ var u.x0) ⊗ (var u.y1 ⊖ var Y)) (product_le (X -ℤ u.x0) (u.y1 -ℤ Y) a c),
        from_le (num 0) ((var X ⊖ var u.x1) ⊗ (var Y ⊖ var u.y0)) (product_le (X -ℤ u.x1) (Y -ℤ u.y0) b lower),
      ))
      ).le

-- ---- one edge, on each side of it
nil : (t : Bool) → cond t (pos 0) (pos 0) ≡ pos 0
nil true = refl
nil false = refl

module _ (X Y : ℤ) where
  left_core : (u : Edge) (v : ℤ) → X <ℤ u.x0 → X <ℤ u.x1 → (t : Bool) → spans_up u Y ≡ t → cond (left_up u X Y) (cond t v (pos 0)) (pos 0) ≡ pos 0
  left_core u v h k true q = ap (λ (b : Bool). cond b v (pos 0)) (is_false (left_up u X Y) (not_left u X Y (subst T (sym q) tt) h k))
  left_core u v h k false q = nil (left_up u X Y)

  right_core : (u : Edge) (v : ℤ) → u.x0 ≤ℤ X → u.x1 ≤ℤ X → (t : Bool) → spans_up u Y ≡ t → cond (left_up u X Y) (cond t v (pos 0)) (pos 0) ≡ cond t v (pos 0)
  right_core u v h k true q = ap (λ (b : Bool). cond b v (pos 0)) (is_true (left_up u X Y) (is_left u X Y (subst T (sym q) tt) h k))
  right_core u v h k false q = nil (left_up u X Y)

  -- the sample lies left of both ends, or not left of either
  pub left_of : (e : Edge) → (X <ℤ e.x0) × (X <ℤ e.x1) → counts X Y e ≡ pos 0
  unfolding counts weight spans at_or_left upward
  left_of e h = by (rises e)
    where
      by : (r : Bool) → cond (left_up (cond r e (turned e)) X Y) (cond (spans_up (cond r e (turned e)) Y) (sign e) (pos 0)) (pos 0) ≡ pos 0
      by true = left_core e (sign e) h.0 h.1 (spans_up e Y) refl
      by false = left_core (turned e) (sign e) h.1 h.0 (spans_up (turned e) Y) refl

  pub right_of : (e : Edge) → (e.x0 ≤ℤ X) × (e.x1 ≤ℤ X) → counts X Y e ≡ weight Y e
  unfolding counts weight spans at_or_left upward
  right_of e h = by (rises e)
    where
      by : (r : Bool)
          → cond (left_up (cond r e (turned e)) X Y) (cond (spans_up (cond r e (turned e)) Y) (sign e) (pos 0)) (pos 0)
          ≡ cond (spans_up (cond r e (turned e)) Y) (sign e) (pos 0)
      by true = right_core e (sign e) h.0 h.1 (spans_up e Y) refl
      by false = right_core (turned e) (sign e) h.1 h.0 (spans_up (turned e) Y) refl

  flat : (e : Edge) → weight Y e ≡ pos 0 → counts X Y e ≡ pos 0
  unfolding counts
  flat e q = ap (λ (v : ℤ). cond (at_or_left e X Y) v (pos 0)) q ∙ nil (at_or_left e X Y)

  -- the sample lies below both ends, or not below either
  pub under : (e : Edge) → (Y <ℤ e.y0) × (Y <ℤ e.y1) → counts X Y e ≡ pos 0
  under e h = flat e (weight_law e Y ∙ ap₂ (λ (a b : Bool). cond a (pos 1) (pos 0) -ℤ cond b (pos 1) (pos 0)) (far e.y0 h.0) (far e.y1 h.1))
    where
      far : (y : ℤ) → Y <ℤ y → le_z y Y ≡ false
      far y l = is_false (le_z y Y) (λ t. clash_ℤ {a = Y} {b = y} l (le_z_yes t))

  pub over : (e : Edge) → (e.y0 ≤ℤ Y) × (e.y1 ≤ℤ Y) → counts X Y e ≡ pos 0
  over e h = flat e
      (weight_law e Y
      ∙ ap₂ (λ (a b : Bool). cond a (pos 1) (pos 0) -ℤ cond b (pos 1) (pos 0)) (is_true (le_z e.y0 Y) h.0.le) (is_true (le_z e.y1 Y) h.1.le))

  -- ---- all edges
  pub left_wind : {es : List Edge} → Every (λ e. (X <ℤ e.x0) × (X <ℤ e.x1)) es → winding es X Y ≡ pos 0
  unfolding winding
  left_wind r = sum_none (every_map left_of r)

  pub right_wind : {es : List Edge} → Closed es → Every (λ e. (e.x0 ≤ℤ X) × (e.x1 ≤ℤ X)) es → winding es X Y ≡ pos 0
  unfolding winding
  right_wind c r = sum_same (every_map right_of r) ∙ closed_path_cancels c Y

  pub under_wind : {es : List Edge} → Every (λ e. (Y <ℤ e.y0) × (Y <ℤ e.y1)) es → winding es X Y ≡ pos 0
  unfolding winding
  under_wind r = sum_none (every_map under r)

  pub over_wind : {es : List Edge} → Every (λ e. (e.y0 ≤ℤ Y) × (e.y1 ≤ℤ Y)) es → winding es X Y ≡ pos 0
  unfolding winding
  over_wind r = sum_none (every_map over r)
