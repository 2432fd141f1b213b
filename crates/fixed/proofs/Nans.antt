-- Which floats are no NaNs, and what the bits of a float are.
use mathlib.Core.Path.{◌≡◌, refl, sym, subst}
use mathlib.Core.Bool.{true, not}
use Prim.Native.Nat.{ℕ}
use lib.Dec.{T}
use lib.Ieee.{Float, nan, inf, fin, is_nan, fits, of_bits, to_bits, binary32}
use lib.Ieee.Bits.{of_bits-to_bits}
use Rattle.fixed.specs.Floats.{at_most}

pub only_nan : (v : Float) → is_nan v ≡ true → v ≡ nan
unfolding is_nan
only_nan nan e = refl
only_nan (inf s) e = cc
only_nan (fin s m d) e = cc

-- a float in a local has the bits that it came from
pub held_float : (v : Float) → fits binary32 v ≡ true → of_bits binary32 (to_bits binary32 v) ≡ v
held_float v f = of_bits-to_bits binary32 v (subst T (sym f) tt)

-- what is limited in size is a number
pub limited_number : (b : ℕ) (v : Float) → at_most b v ≡ true → T (not (is_nan v))
unfolding is_nan
limited_number b nan e = subst T (sym e) tt
limited_number b (inf s) e = tt
limited_number b (fin s m d) e = tt
