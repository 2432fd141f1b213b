-- Scissors: with scissoring on, a pixel outside every rectangle has k = 0. Rectangle i is four signed 32-bit numbers x, y, w, h at 16 i.
use Rattle.std.specs.Prelude.{ℕ, zero, suc, ◌+◌, ◌*◌, List, Bool, false, not, cond, ◌&&◌, ◌||◌, ℤ, pos, ◌+ℤ◌}
use Rattle.std.specs.Int.Signed.{le_z, lt_z}
use Rattle.fixed.specs.Little.{i32_at}

-- from start to start + size - 1, as whole numbers, without wrap; none where size is not above 0
abbrev pub spans_pixel : ℤ → ℤ → ℕ → Bool
spans_pixel start size x = le_z start (pos x) && lt_z (pos x) (start +ℤ size)

abbrev pub in_scissor : List ℕ → ℕ → ℕ → ℕ → Bool
in_scissor scissors i x y =
    spans_pixel (i32_at scissors (16 * i)) (i32_at scissors (16 * i + 8)) x && spans_pixel (i32_at scissors (16 * i + 4)) (i32_at scissors (16 * i + 12)) y

-- in any of the first n
abbrev pub in_scissors : List ℕ → ℕ → ℕ → ℕ → Bool
in_scissors scissors zero x y = false
in_scissors scissors (suc n) x y = in_scissors scissors n x y || in_scissor scissors n x y

-- k of the pixel (x, y), where on says whether scissoring is on and k is its coverage by the path
unfoldable pub scissored : Bool → List ℕ → ℕ → ℕ → ℕ → ℕ → ℕ
scissored on scissors n x y k = cond (on && not (in_scissors scissors n x y)) 0 k
