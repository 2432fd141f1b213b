-- The size of a picture, and of its surface. A reviewer of the paper need not read it.
use Rattle.std.specs.Prelude.{◌≡◌, cond, ◌||◌, List, ℕ, ◌*◌, ◌≤◌, ltb, length, Option, None, Some}
use Rattle.scene.specs.Layout.{block_bytes, side_limit}
use Rattle.scene.specs.Header.{width_of, height_of}
use Rattle.console.specs.declared.sizes.Size.{Size}

-- a size that the format allows, or none
abbrev pub Allowed : Size → Type 0
Allowed r = (r.width ≤ side_limit) × (r.height ≤ side_limit)

-- the bytes of the largest surface
abbrev pub most_bytes : ℕ
most_bytes = 4194304

-- s is a surface of that size
abbrev pub Surface : Size → List ℕ → Type 0
Surface r s = Allowed r × (length s ≡ r.height * (r.width * 4))

-- what the first block of these bytes gives, if it is a size that the format allows
unfoldable pub picture_size : List ℕ → Option Size
picture_size s =
    cond (ltb (length s) block_bytes) None
    (cond (ltb side_limit (width_of s) || ltb side_limit (height_of s)) None (Some (record { width = width_of s; height = height_of s })))
