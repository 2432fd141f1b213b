-- Floats read from bytes, where a NaN has an answer of its own.
use Rattle.std.proofs.Common.{◌≡◌, ℕ, Bool, true, false, T, List, sym, refl, ap, ◌∙◌, subst}
use lib.Ieee.{Float, nan, inf, fin, binary32, nan_bits, is_nan, lt, mul, add, to_unsigned}
use lib.Ieee.Bits.{nan_bits_is}
use Rattle.fixed.specs.Floats.{real_of, real_at, f32_at}
use Rattle.fixed.specs.Little.{u32_at}
use Rattle.std.specs.Prelude.{Option, Some, is_some}
use Rattle.fixed.proofs.Answers.{number_told, no_number_lem}
use Rattle.color.specs.Channels.{channel_byte}
use Rattle.paint.specs.Buffers.{less_real}

nan_only : (v : Float) → is_nan v ≡ true → v ≡ nan
unfolding is_nan
nan_only nan e = refl
nan_only (inf s) e = absurd (subst T (sym e) tt)
nan_only (fin s m d) e = absurd (subst T (sym e) tt)

-- an answer that holds no number was read from a NaN
pub read_nan : (s : List ℕ) (at : ℕ) (r : Option Float) → r ≡ real_at s at → is_some r ≡ false → f32_at s at ≡ nan
read_nan s at r e h =
    nan_only (f32_at s at) (sym (nan_bits_is binary32 (u32_at s at)) ∙ no_number_lem (nan_bits binary32 (u32_at s at)) (f32_at s at) (ap is_some (sym e) ∙ h))

pub read_number : (s : List ℕ) (at : ℕ) (r : Option Float) (v : Float) → r ≡ real_at s at → r ≡ Some v → v ≡ f32_at s at
read_number s at r v e h = (number_told (nan_bits binary32 (u32_at s at)) (f32_at s at) v (sym e ∙ h)).0

-- a NaN's channel is 0
pub nan_channel : channel_byte nan ≡ 0
unfolding channel_byte lt mul add to_unsigned
nan_channel = refl

-- a comparison of what is read is one of the floats
nan_less : (v : Float) → lt nan v ≡ false
unfolding lt
nan_less v = refl

less_nan : (v : Float) → lt v nan ≡ false
unfolding lt
less_nan nan = refl
less_nan (inf s) = refl
less_nan (fin s m e) = refl

pub less_read : (s : List ℕ) (i j : ℕ) → less_real (real_at s i) (real_at s j) ≡ lt (f32_at s i) (f32_at s j)
less_read s i j = by (nan_bits binary32 (u32_at s i)) (nan_bits binary32 (u32_at s j)) refl refl
  where
    by : (a b : Bool) → nan_bits binary32 (u32_at s i) ≡ a → nan_bits binary32 (u32_at s j) ≡ b
        → less_real (real_of (nan_bits binary32 (u32_at s i)) (f32_at s i)) (real_of (nan_bits binary32 (u32_at s j)) (f32_at s j)) ≡ lt (f32_at s i)
        (f32_at s j)
    by true b p q = rw (p, nan_only (f32_at s i) (sym (nan_bits_is binary32 (u32_at s i)) ∙ p)) (sym (nan_less (f32_at s j)))
    by false true p q = rw (p, q, nan_only (f32_at s j) (sym (nan_bits_is binary32 (u32_at s j)) ∙ q)) (sym (less_nan (f32_at s i)))
    by false false p q = rw (p, q)
