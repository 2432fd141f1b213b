-- The whole-number square root, rounded down (paper 02, P1).
use Rattle.std.specs.Prelude.{ℕ, zero, suc, ◌*◌, cond, leb}

-- the largest k up to m whose square is at most n
abbrev pub root_up_to : ℕ → ℕ → ℕ
root_up_to zero n = 0
root_up_to (suc m) n = cond (leb (suc m * suc m) n) (suc m) (root_up_to m n)

-- the largest k whose square is at most n: none is above n
unfoldable pub isqrt : ℕ → ℕ
isqrt n = root_up_to n n
