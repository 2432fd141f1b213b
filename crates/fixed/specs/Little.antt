-- Numbers of two and of four bytes, the lowest byte first. Past the end of the list a byte counts as 0.
use Rattle.std.specs.Prelude.{ℕ, ◌+◌, ◌*◌, List, cond, get_or, ltb, ℤ, pos, ◌-ℤ◌}

abbrev pub u16_at : List ℕ → ℕ → ℕ
u16_at s at = get_or s at 0 + get_or s (at + 1) 0 * 256

abbrev pub u32_at : List ℕ → ℕ → ℕ
u32_at s at = u16_at s at + u16_at s (at + 2) * 65536

-- the number that w bits are in two's complement, where half is 2 ^ (w - 1)
abbrev pub signed : ℕ → ℕ → ℤ
signed half n = cond (ltb n half) (pos n) (pos n -ℤ pos (half * 2))

abbrev pub i16_at : List ℕ → ℕ → ℤ
i16_at s at = signed 32768 (u16_at s at)

abbrev pub i32_at : List ℕ → ℕ → ℤ
i32_at s at = signed 2147483648 (u32_at s at)
