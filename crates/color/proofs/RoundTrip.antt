-- A byte divided by 255 as an f32 and read back is the byte: one test of 256 bytes, which antt computes.
use Rattle.std.proofs.Common.{◌≡◌, ℕ, ◌<◌, Bool, eqb, eqb→eq}
use lib.Ieee.{div, of_int, mul, add, lt, to_unsigned}
use Rattle.fixed.proofs.Upto.{upto}
use Rattle.color.specs.Channels.{channel_byte, byte_channel, bytes_of_color, color_of_bytes}
use Rattle.color.specs.declared.Pixel.{Pixel}

reads_back : ℕ → Bool
reads_back c = eqb (channel_byte (byte_channel c)) c

pub byte_reads_back : (c : ℕ) → c < 256 → channel_byte (byte_channel c) ≡ c
unfolding reads_back channel_byte byte_channel div of_int mul add lt to_unsigned
byte_reads_back c h = eqb→eq (channel_byte (byte_channel c)) c (upto reads_back 256 tt c h)

pub pixel_reads_back : (p : Pixel) → p.r < 256 → p.g < 256 → p.b < 256 → p.a < 256 → bytes_of_color (color_of_bytes p) ≡ p
pixel_reads_back p r g b a = rw (byte_reads_back p.r r, byte_reads_back p.g g, byte_reads_back p.b b, byte_reads_back p.a a)
