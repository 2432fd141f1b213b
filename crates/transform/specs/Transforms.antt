-- The colour transformation of document 001, as paper 02, P10 puts it right: every channel has a scale and a bias of its own.
use Rattle.std.specs.Prelude.{ℕ, min, ◌+◌, ◌*◌, ◌/◌, false, cond, eqb, ℤ, pos, negsuc, ◌+ℤ◌, ◌*ℤ◌, Float}
use Rattle.std.specs.Float.{fin}
use Rattle.std.specs.Float.Ieee.{lt, neg}
use Rattle.fixed.specs.Floor.{floor_div}
use Rattle.fixed.specs.Floats.{scaled}
use Rattle.color.specs.declared.Pixel.{Pixel}
use Rattle.color.specs.Channels.{premultiplied}
use Rattle.transform.specs.declared.ColorTransform.{ColorTransform}
use Rattle.transform.specs.declared.FixedTransform.{FixedTransform}

-- ---- the eight values as whole numbers
-- v cut to −limit..limit; a NaN, which the scene's rules refuse, gives −limit
abbrev pub cut : Float → Float → Float
cut limit v = cond (lt (neg limit) v) (cond (lt v limit) v limit) (neg limit)

-- a scale is cut to ±127, a bias to ±1
abbrev pub scale_limit : Float
scale_limit = fin false 127 (pos 0)

abbrev pub bias_limit : Float
bias_limit = fin false 1 (pos 0)

-- then floor(256v + 1/2)
unfoldable pub fixed_scale : Float → ℤ
fixed_scale v = scaled 256 (cut scale_limit v)

unfoldable pub fixed_bias : Float → ℤ
fixed_bias v = scaled 256 (cut bias_limit v)

abbrev pub fixed_transform : ColorTransform → FixedTransform
fixed_transform t = record {
  sr = fixed_scale t.sr;
  sg = fixed_scale t.sg;
  sb = fixed_scale t.sb;
  sa = fixed_scale t.sa;
  br = fixed_bias t.br;
  bg = fixed_bias t.bg;
  bb = fixed_bias t.bb;
  ba = fixed_bias t.ba;
}

-- ---- a pixel
-- the channel c under the alpha a out of premultiplied form: floor((510c + a) / 2a), 0 where a is 0
unfoldable pub unpremultiply : ℕ → ℕ → ℕ
unpremultiply c a = cond (eqb a 0) 0 ((510 * c + a) / (2 * a))

-- the colours so, alpha as it is
abbrev pub unpremultiplied : Pixel → Pixel
unpremultiplied p = record { r = unpremultiply p.r p.a; g = unpremultiply p.g p.a; b = unpremultiply p.b p.a; a = p.a }

-- z cut to 0..255
abbrev pub byte_in : ℤ → ℕ
byte_in (pos n) = min 255 n
byte_in (negsuc n) = 0

-- a channel by its own scale and bias: floor((c·S + 255·Bias + 128) / 256), cut to 0..255
unfoldable pub transform_channel : ℤ → ℤ → ℕ → ℕ
transform_channel scale bias c = byte_in (floor_div (pos c *ℤ scale +ℤ pos 255 *ℤ bias +ℤ pos 128) 256)

-- every channel so, alpha too
abbrev pub transform_channels : FixedTransform → Pixel → Pixel
transform_channels t p = record {
  r = transform_channel t.sr t.br p.r;
  g = transform_channel t.sg t.bg p.g;
  b = transform_channel t.sb t.bb p.b;
  a = transform_channel t.sa t.ba p.a;
}

-- premultiplied bytes transformed: out of premultiplied form, channel by channel, and the colours premultiplied by the new alpha
unfoldable pub transformed : FixedTransform → Pixel → Pixel
transformed t p = premultiplied (transform_channels t (unpremultiplied p))

-- ---- the values that document 001 begins with: scales 1, biases 0
abbrev pub identity_transform : ColorTransform
identity_transform = record {
  sr = fin false 1 (pos 0);
  sg = fin false 1 (pos 0);
  sb = fin false 1 (pos 0);
  sa = fin false 1 (pos 0);
  br = fin false 0 (pos 0);
  bg = fin false 0 (pos 0);
  bb = fin false 0 (pos 0);
  ba = fin false 0 (pos 0);
}
