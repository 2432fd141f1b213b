-- A colour's channel as a float and as a byte, and premultiplied bytes.
use Rattle.std.specs.Prelude.{ℕ, ◌+◌, ◌*◌, ◌/◌, ◌≤◌, false, cond, pos, negsuc, Float}
use Rattle.std.specs.Float.{fin, binary32}
use Rattle.std.specs.Float.Ieee.{lt, mul, add, div, of_int, to_unsigned}
use Rattle.color.specs.declared.Color.{Color}
use Rattle.color.specs.declared.Pixel.{Pixel}

abbrev pub zero : Float
zero = fin false 0 (pos 0)

abbrev pub one : Float
one = fin false 1 (pos 0)

-- 255.0 and 0.5
abbrev pub full : Float
full = fin false 255 (pos 0)

abbrev pub half : Float
half = fin false 1 (negsuc 0)

-- v cut to 0..1
abbrev pub clamped : Float → Float
clamped v = cond (lt zero v) (cond (lt v one) v one) zero

-- cut to 0..1, times 255.0, plus 0.5, each rounded once as f32, its fraction dropped
unfoldable pub channel_byte : Float → ℕ
channel_byte v = to_unsigned 8 (add binary32 (mul binary32 (clamped v) full) half)

-- a byte c as c / 255.0 in f32
unfoldable pub byte_channel : ℕ → Float
byte_channel c = div binary32 (of_int binary32 (pos c)) full

-- a colour's four bytes, and the colour set from four bytes
abbrev pub bytes_of_color : Color → Pixel
bytes_of_color c = record { r = channel_byte c.r; g = channel_byte c.g; b = channel_byte c.b; a = channel_byte c.a }

abbrev pub color_of_bytes : Pixel → Color
color_of_bytes p = record { r = byte_channel p.r; g = byte_channel p.g; b = byte_channel p.b; a = byte_channel p.a }

-- c premultiplied by a
abbrev pub premultiply : ℕ → ℕ → ℕ
premultiply c a = (c * a + 127) / 255

abbrev pub premultiplied : Pixel → Pixel
premultiplied p = record { r = premultiply p.r p.a; g = premultiply p.g p.a; b = premultiply p.b p.a; a = p.a }

-- no channel is above its alpha
pub record UnderAlpha (p : Pixel) : Type 0 where
  pub r : p.r ≤ p.a
  pub g : p.g ≤ p.a
  pub b : p.b ≤ p.a
