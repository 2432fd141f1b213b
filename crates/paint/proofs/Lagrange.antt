-- Q is A² + D (dx² + dy²), by Lagrange's identity.
use Rattle.std.proofs.Common.{◌≡◌, ℤ, ◌+ℤ◌, ◌-ℤ◌, ◌*ℤ◌, ◌∙◌, ap₂, arith}
use Rattle.fixed.proofs.Poly.{var, eq, from_eq, ◌⊕◌, ◌⊖◌, ◌⊗◌}
use Rattle.paint.specs.Radial.{along, across, under_root, inside}

-- ---- products of four numbers, put in another order
same_squares : (a b : ℤ) → (a *ℤ b) *ℤ (a *ℤ b) ≡ (a *ℤ a) *ℤ (b *ℤ b)
same_squares a b = eq ((var a ⊗ var b) ⊗ (var a ⊗ var b)) ((var a ⊗ var a) ⊗ (var b ⊗ var b)) (omega arith)

crossed : (u v f g : ℤ) → (u *ℤ g) *ℤ (v *ℤ f) ≡ (u *ℤ f) *ℤ (v *ℤ g)
crossed u v f g = eq ((var u ⊗ var g) ⊗ (var v ⊗ var f)) ((var u ⊗ var f) ⊗ (var v ⊗ var g)) (omega arith)

-- ---- the squares of a difference and of a sum, added
squares : (t w p s : ℤ) → t *ℤ w ≡ p *ℤ s → (t -ℤ w) *ℤ (t -ℤ w) +ℤ (p +ℤ s) *ℤ (p +ℤ s) ≡ t *ℤ t +ℤ w *ℤ w +ℤ (p *ℤ p +ℤ s *ℤ s)
squares t w p s e =
    eq ((var t ⊖ var w) ⊗ (var t ⊖ var w) ⊕ (var p ⊕ var s) ⊗ (var p ⊕ var s)) (var t ⊗ var t ⊕ var w ⊗ var w ⊕ (var p ⊗ var p ⊕ var s ⊗ var s))
    (omega (arith, from_eq (var t ⊗ var w) (var p ⊗ var s) e))

four : (a b c d : ℤ) → a *ℤ d +ℤ b *ℤ c +ℤ (a *ℤ c +ℤ b *ℤ d) ≡ (a +ℤ b) *ℤ (c +ℤ d)
four a b c d =
    eq (var a ⊗ var d ⊕ var b ⊗ var c ⊕ (var a ⊗ var c ⊕ var b ⊗ var d)) ((var a ⊕ var b) ⊗ (var c ⊕ var d)) (omega arith)

both_squares : (u v f g : ℤ) → across u v f g *ℤ across u v f g +ℤ along u v f g *ℤ along u v f g ≡ (u *ℤ u +ℤ v *ℤ v) *ℤ (f *ℤ f +ℤ g *ℤ g)
both_squares u v f g =
    squares (u *ℤ g) (v *ℤ f) (u *ℤ f) (v *ℤ g) (crossed u v f g)
    ∙ ap₂ ◌+ℤ◌ (ap₂ ◌+ℤ◌ (same_squares u g) (same_squares v f)) (ap₂ ◌+ℤ◌ (same_squares u f) (same_squares v g))
    ∙ four (u *ℤ u) (v *ℤ v) (f *ℤ f) (g *ℤ g)

exchanged : (R N F b a : ℤ) → b +ℤ a ≡ N *ℤ F → R *ℤ N -ℤ b ≡ a +ℤ (R -ℤ F) *ℤ N
exchanged R N F b a e =
    eq (var R ⊗ var N ⊖ var b) (var a ⊕ (var R ⊖ var F) ⊗ var N) (omega (arith, from_eq (var b ⊕ var a) (var N ⊗ var F) e))

pub lagrange : (r u v f g : ℤ) → under_root r u v f g ≡ along u v f g *ℤ along u v f g +ℤ inside r f g *ℤ (u *ℤ u +ℤ v *ℤ v)
lagrange r u v f g =
    exchanged (r *ℤ r) (u *ℤ u +ℤ v *ℤ v) (f *ℤ f +ℤ g *ℤ g) (across u v f g *ℤ across u v f g) (along u v f g *ℤ along u v f g) (both_squares u v f g)
