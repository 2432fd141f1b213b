-- Bit patterns of 32 bits, by which the functions of this crate judge a float's size. A reviewer of the paper need not read it.
use Rattle.std.specs.Prelude.{ℕ, ◌+◌, ◌*◌, ◌%◌}

-- the bit of the sign, and the lowest bit of the exponent's field
abbrev pub sign_bit : ℕ
sign_bit = 0x80000000

abbrev pub exponent_bit : ℕ
exponent_bit = 0x00800000

-- a pattern without its sign: these are in the order of the sizes, and every NaN's is above that of infinity
abbrev pub size_bits : ℕ → ℕ
size_bits n = n % sign_bit

abbrev pub infinity_pattern : ℕ
infinity_pattern = 0x7f800000

-- the pattern of 2 ^ log
abbrev pub power_pattern : ℕ → ℕ
power_pattern log = (127 + log) * exponent_bit
