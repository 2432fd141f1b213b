-- Laws of a byte premultiplied by an alpha.
use Rattle.std.proofs.Common.{ℕ, ◌*◌, ◌<◌, ◌≤◌, mul-le-mul_right, mul-le-mul, arith}
use lib.Ieee.{Float}
use lib.Ieee.Casts.{to_unsigned-lt}
use Rattle.color.specs.Channels.{channel_byte, premultiply, premultiplied, UnderAlpha}
use Rattle.color.specs.declared.Pixel.{Pixel}

-- what is divided fits 16 bits
pub product_small : (c a : ℕ) → c < 256 → a < 256 → c * a ≤ 65025
product_small c a h k =
    let h1 : c ≤ 255 = omega arith in
    let k1 : a ≤ 255 = omega arith in
    mul-le-mul h1 k1

-- a channel is a byte, and premultiplied bytes are at most their alpha
pub channel_small : (v : Float) → channel_byte v < 256
unfolding channel_byte
channel_small v = to_unsigned-lt 8 _

at_most_alpha : (c a : ℕ) → c < 256 → premultiply c a ≤ a
at_most_alpha c a h =
    let h1 : c ≤ 255 = omega arith in
    omega (arith, mul-le-mul_right a h1)

pub premultiplied_under : (p : Pixel) → p.r < 256 → p.g < 256 → p.b < 256 → UnderAlpha (premultiplied p)
premultiplied_under p r g b = record {
  r = at_most_alpha p.r p.a r;
  g = at_most_alpha p.g p.a g;
  b = at_most_alpha p.b p.a b;
}
