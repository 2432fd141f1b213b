-- The number that an argument gives. A reviewer of the paper need not read it.
use Rattle.std.specs.Prelude.{ℕ, ◌+◌, ◌*◌, ◌-◌, List, [], ◌∷◌, Option, None, Some, cond, ltb}

-- n with one more digit, nine of them at most, or none
unfoldable pub with_digit : ℕ → ℕ → Option ℕ
with_digit n b = cond (ltb b 48) None (cond (ltb 57 b) None (cond (ltb 99999999 n) None (Some (n * 10 + (b - 48)))))

-- n with more digits, or none
abbrev pub with_digits : Option ℕ → List ℕ → Option ℕ
with_digits None s = None
with_digits (Some n) [] = Some n
with_digits (Some n) (b ∷ s) = with_digits (with_digit n b) s

-- the number that these bytes are, or none
abbrev pub number_of : List ℕ → Option ℕ
number_of [] = None
number_of (b ∷ s) = with_digits (Some 0) (b ∷ s)
