-- Paths that are accepted without a look at their points. A reviewer of the paper need not read it.
use Rattle.std.specs.Prelude.{ℕ, zero, suc, ◌+◌, ◌*◌, ◌%◌, List, Bool, true, ◌&&◌, leb, eqb, get_or, ℤ, nat_abs}
use Rattle.path.specs.declared.FixedMatrix.{FixedMatrix}
use Rattle.path.specs.Segments.{coordinates_taken}

-- a plain segment has absolute coordinates and reflects no control: close, move, line, horizontal, vertical, quad, cubic
abbrev pub is_plain : ℕ → Bool
is_plain byte = eqb (byte % 2) 0 && leb byte 12

-- the first n segments are plain
abbrev pub plain_to : List ℕ → ℕ → Bool
plain_to segments zero = true
plain_to segments (suc n) = plain_to segments n && is_plain (get_or segments n 0)

-- how many coordinates the first n segments take
abbrev pub taken_to : List ℕ → ℕ → ℕ
taken_to segments zero = 0
taken_to segments (suc n) = taken_to segments n + coordinates_taken (get_or segments n 0)

-- entries so small that every point in range is taken to one that is not too far out
abbrev pub axis_small : ℤ → ℤ → ℤ → Bool
axis_small a b t = leb ((nat_abs a + nat_abs b) * 32768 + nat_abs t) 2147483520

unfoldable pub is_small : FixedMatrix → Bool
is_small m = axis_small m.sx m.shx m.tx && axis_small m.shy m.sy m.ty
