-- CRC-32, as zlib and Ethernet have it: bytes in order, the lowest bit of each first.
use Rattle.std.specs.Prelude.{ℕ, zero, suc, ◌/◌, ◌%◌, cond, List, length, get_or, eqb}
use Rattle.std.specs.Int.Bits.{bit_xor}

-- one bit falls out of the remainder; where it is 1, the polynomial is added
unfoldable pub crc_bit : ℕ → ℕ
crc_bit c = cond (eqb (c % 2) 0) (c / 2) (bit_xor (c / 2) 3988292384)

-- a byte goes in: its eight bits
unfoldable pub crc_byte : ℕ → ℕ → ℕ
crc_byte c b = crc_bit (crc_bit (crc_bit (crc_bit (crc_bit (crc_bit (crc_bit (crc_bit (bit_xor c b))))))))

-- the remainder after the first n bytes; it begins with all bits 1
abbrev pub crc_to : List ℕ → ℕ → ℕ
crc_to s zero = 4294967295
crc_to s (suc n) = crc_byte (crc_to s n) (get_or s n 0)

-- at the end all bits are turned
unfoldable pub crc_of : List ℕ → ℕ
crc_of s = bit_xor (crc_to s (length s)) 4294967295
