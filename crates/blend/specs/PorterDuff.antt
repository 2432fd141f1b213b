-- Blending: document 001, Table 15, in 255ths, and the byte stored under a coverage of 0 to 16 samples ("Coverage and blending").
use Rattle.std.specs.Prelude.{ℕ, min, ◌+◌, ◌-◌, ◌*◌, ◌/◌, Bool, cond, ◌&&◌, leb, eqb}
use Rattle.color.specs.declared.Pixel.{Pixel}
use Rattle.codes.specs.Codes.{accepted_code, illegal_argument}
use Rattle.blend.specs.declared.Composited.{Composited}

-- the blend modes, by their numbers in the scene file
abbrev pub mode_src : ℕ
mode_src = 0x2000

abbrev pub mode_src_over : ℕ
mode_src_over = 0x2001

abbrev pub mode_dst_over : ℕ
mode_dst_over = 0x2002

abbrev pub mode_src_in : ℕ
mode_src_in = 0x2003

abbrev pub mode_dst_in : ℕ
mode_dst_in = 0x2004

abbrev pub is_mode : ℕ → Bool
is_mode mode = leb mode_src mode && leb mode mode_dst_in

-- Fs and Fd of Table 15: of the five, Fs goes by the destination's alpha at most, and Fd by the source's
unfoldable pub source_factor : ℕ → ℕ → ℕ
source_factor mode da =
    cond (eqb mode mode_dst_over) (255 - da)
    (cond (eqb mode mode_src_in) da
    (cond (eqb mode mode_dst_in) 0 255))

unfoldable pub destination_factor : ℕ → ℕ → ℕ
destination_factor mode sa =
    cond (eqb mode mode_src_over) (255 - sa)
    (cond (eqb mode mode_dst_over) 255
    (cond (eqb mode mode_dst_in) sa 0))

-- B, of a source byte s and a destination byte d
abbrev pub blended : ℕ → ℕ → ℕ → ℕ → ℕ
blended s fs d fd = min 255 ((s * fs + d * fd + 127) / 255)

-- the stored byte, where k of 16 samples are covered and the mask's byte is m (paper 02, P6)
abbrev pub stored : ℕ → ℕ → ℕ → ℕ → ℕ
stored k m blend d = (blend * k * m + d * (4080 - k * m) + 2040) / 4080

-- paper 01's formula, without a mask: it is the one above with m = 255
abbrev pub stored_unmasked : ℕ → ℕ → ℕ → ℕ
stored_unmasked k blend d = (blend * k + d * (16 - k) + 8) / 16

-- one channel of the step on one pixel
unfoldable pub composite_byte : ℕ → ℕ → ℕ → ℕ → ℕ → ℕ → ℕ → ℕ
composite_byte mode k m sa da s d = stored k m (blended s (source_factor mode da) d (destination_factor mode sa)) d

-- a destination as it is read: each channel cut to 0..alpha, which is never cut itself (paper 02, P2)
abbrev pub clamped : Pixel → Pixel
clamped d = record { r = min d.r d.a; g = min d.g d.a; b = min d.b d.a; a = d.a }

-- the four bytes that are stored over a destination as it is read
abbrev pub composite_on : ℕ → ℕ → ℕ → Pixel → Pixel → Pixel
composite_on mode k m s d = record {
  r = composite_byte mode k m s.a d.a s.r d.r;
  g = composite_byte mode k m s.a d.a s.g d.g;
  b = composite_byte mode k m s.a d.a s.b d.b;
  a = composite_byte mode k m s.a d.a s.a d.a;
}

-- the step on one pixel: mode, k, the mask's byte m, the paint's premultiplied bytes, the bytes that stand there. With k = 0 these stay, stray or not; else
-- they are read clamped
unfoldable pub composite : ℕ → ℕ → ℕ → Pixel → Pixel → Pixel
composite mode k m s d = cond (eqb k 0) d (composite_on mode k m s (clamped d))

-- the step called alone (paper 02, P2 and P6): any other mode or k, and what is no byte as m, is refused, and the pixel stays
abbrev pub composite_answer : ℕ → ℕ → ℕ → Pixel → Pixel → Composited
composite_answer mode k m s d =
    cond (is_mode mode && (leb k 16 && leb m 255)) (record { code = accepted_code; pixel = composite mode k m s d })
    (record { code = illegal_argument; pixel = d })
