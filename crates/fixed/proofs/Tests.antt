-- A test that computes, and the order that it decides.
use mathlib.Core.Path.{◌≡◌, refl, sym, subst}
use mathlib.Core.Bool.{Bool, true, false, not, ◌&&◌}
use native.Mathlib.Omega.{arith}
use lib.Dec.{T}
use lib.IntN.{ℤ}
use lib.Signed.{le_z, lt_z, ◌≤ℤ◌, lt_z_yes, lt_z_no}
use Rattle.fixed.proofs.Poly.{var, le, from_le, from_lt}

-- two tests that hold together are one
pub same_test : (a b : Bool) → (T a → T b) → (T b → T a) → a ≡ b
same_test true true f g = refl
same_test true false f g = absurd (f tt)
same_test false true f g = absurd (g tt)
same_test false false f g = refl

pub is_true : (b : Bool) → T b → b ≡ true
is_true true t = refl
is_true false t = absurd t

pub is_false : (b : Bool) → (T b → ⊥) → b ≡ false
is_false true t = absurd (t tt)
is_false false t = refl

-- what two tests that both hold tell
pub both_left : (a b : Bool) → T (a && b) → T a
both_left true b t = tt
both_left false b t = t

pub both_right : (a b : Bool) → T (a && b) → T b
both_right true b t = t
both_right false b t = absurd t

pub ≤ℤ_trans : {a b c : ℤ} → a ≤ℤ b → b ≤ℤ c → a ≤ℤ c
≤ℤ_trans {a} {b} {c} h k = le (var a) (var c) (omega (arith, from_le (var a) (var b) h, from_le (var b) (var c) k))

pub le_z_not : (a b : ℤ) → le_z a b ≡ false → b ≤ℤ a
le_z_not a b e = by (lt_z b a) refl
  where
    by : (t : Bool) → lt_z b a ≡ t → b ≤ℤ a
    by true q = le (var b) (var a) (omega (arith, from_lt (var b) (var a) (lt_z_yes (subst T (sym q) tt))))
    by false q = absurd (subst T e (lt_z_no {a = b} {b = a} (subst (λ (s : Bool). T (not s)) (sym q) tt)).le)
