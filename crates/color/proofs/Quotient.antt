-- Division by 255 with sums and shifts (paper 02, P5).
use Rattle.std.proofs.Common.{◌≡◌, ℕ, ◌+◌, ◌/◌, ◌≤◌, arith}

-- right up to 65,789, and wrong at the next
pub by_255 : (n : ℕ) → n ≤ 65789 → (n + 1 + (n + 1) / 256) / 256 ≡ n / 255
by_255 n h = omega arith
