-- f32 numbers in a list of bytes, and the exact whole number that a float becomes ("Floats to whole numbers").
use Rattle.std.specs.Prelude.{ℕ, ◌*◌, List, Bool, true, false, ℤ, pos, neg_ℤ, nat_abs, ◌+ℤ◌, Float, leb, Option, None, Some, Result, Ok, Err, if◌then◌else◌}
use Rattle.std.specs.Float.{nan, inf, fin, binary32}
use Rattle.std.specs.Float.Ieee.{up, down, of_bits, nan_bits}
use Rattle.fixed.specs.Floor.{floor_div}
use Rattle.fixed.specs.Little.{u32_at}
use Rattle.fixed.specs.declared.OffsetError.{OffsetError}
use Rattle.fixed.specs.declared.OffsetError.TheVariants.{Outside, NotANumber}

-- the float whose four bytes start at a place
abbrev pub f32_at : List ℕ → ℕ → Float
f32_at s at = of_bits binary32 (u32_at s at)

-- the same as an answer that tells a NaN apart
abbrev pub real_of : Bool → Float → Option Float
real_of true v = None
real_of false v = Some v

abbrev pub real_at : List ℕ → ℕ → Option Float
real_at s at = real_of (nan_bits binary32 (u32_at s at)) (f32_at s at)

-- n or -n
abbrev pub signed_by : Bool → ℕ → ℤ
signed_by false n = pos n
signed_by true n = neg_ℤ (pos n)

-- ±a / d and a half more, rounded down: over 2 d that is ±2 a + d
abbrev pub nearest_of : Bool → ℕ → ℕ → ℤ
nearest_of s a d = floor_div (signed_by s (2 * a) +ℤ pos d) (2 * d)

-- floor(scale v + 1/2), where v is ±m * up e / down e; 0 for what is no number
abbrev pub scaled : ℕ → Float → ℤ
scaled scale nan = pos 0
scaled scale (inf s) = pos 0
scaled scale (fin s m e) = nearest_of s (scale * (m * up e)) (down e)

-- v is a number, and at most b in size
abbrev pub at_most : ℕ → Float → Bool
at_most b nan = false
at_most b (inf s) = false
at_most b (fin s m e) = leb (m * up e) (b * down e)

-- v is from 0 to 1; both zeros are
abbrev pub in_unit : Float → Bool
in_unit nan = false
in_unit (inf s) = false
in_unit (fin false m e) = leb (m * up e) (down e)
in_unit (fin true m e) = leb (m * up e) 0

-- what the offset of a stop becomes: its 65,536ths if it is from 0 to 1
abbrev pub offset_in : Float → Result ℕ OffsetError
offset_in nan = Err NotANumber
offset_in (inf s) = Err Outside
offset_in (fin s m e) = if in_unit (fin s m e) then Ok (nat_abs (scaled 65536 (fin s m e))) else Err Outside
