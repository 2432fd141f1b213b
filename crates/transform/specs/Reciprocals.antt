-- The table of reciprocals, by which the code divides by an alpha. A reviewer of the paper need not read it.
use Rattle.std.specs.Prelude.{ℕ, ◌+◌, ◌/◌, List}
use Rattle.lists.specs.Lists.{tab}

-- 2^24 / a, rounded up; 0 at 0
abbrev pub reciprocal_of : ℕ → ℕ
reciprocal_of a = (16777215 + a) / a

-- of every alpha
unfoldable pub reciprocals : List ℕ
reciprocals = tab 256 reciprocal_of
