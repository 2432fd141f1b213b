-- The text of a picture's row: each pixel as eight hexadecimal digits, in ASCII.
use Rattle.std.specs.Prelude.{cond, List, [], ◌∷◌, ◌++◌, ℕ, ◌+◌, ◌/◌, ◌%◌, eqb, ltb}
use Rattle.lists.specs.Lists.{upto}
use Rattle.color.specs.declared.Pixel.{Pixel}
use Rattle.raster.specs.Surface.{pixel_in}

-- `0` to `9`, then `a` to `f`
abbrev pub hex_digit : ℕ → ℕ
hex_digit d = cond (ltb d 10) (48 + d) (87 + d)

abbrev pub byte_text : ℕ → List ℕ
byte_text b = hex_digit (b / 16) ∷ hex_digit (b % 16) ∷ []

-- R, G, B, A
abbrev pub pixel_text : Pixel → List ℕ
pixel_text p = byte_text p.r ++ byte_text p.g ++ byte_text p.b ++ byte_text p.a

-- what follows pixel x of n: a space, or a newline after the last
abbrev pub after_pixel : ℕ → ℕ → ℕ
after_pixel n x = cond (eqb (x + 1) n) 10 32

-- pixel x of the n in s, and what follows it
abbrev pub cell_text : ℕ → List ℕ → ℕ → List ℕ
cell_text n s x = pixel_text (pixel_in s x) ++ (after_pixel n x ∷ [])

-- the row of the n pixels in s
unfoldable pub row_text : ℕ → List ℕ → List ℕ
row_text n s = upto n (cell_text n s)
