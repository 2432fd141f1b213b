-- Under the alpha 255 a channel is the same in both forms.
use mathlib.Core.Path.{◌≡◌, sym, ap, ◌∙◌}
use Prim.Native.Nat.{ℕ}
use native.Mathlib.Omega.{arith}
use Rattle.color.specs.declared.Pixel.{Pixel}
use Rattle.color.specs.Channels.{premultiply, premultiplied}
use Rattle.transform.specs.declared.FixedTransform.{FixedTransform}
use Rattle.transform.specs.Transforms.{unpremultiply, unpremultiplied, transform_channel, transform_channels, transformed}

pub opaque_channel : (c a : ℕ) → a ≡ 255 → c ≡ unpremultiply c a
unfolding unpremultiply
opaque_channel c a e = rw e (omega arith)

same_byte : (c a : ℕ) → a ≡ 255 → premultiply c a ≡ c
same_byte c a e = rw e (omega arith)

pub opaque_pixel : (p : Pixel) → p.a ≡ 255 → premultiplied p ≡ p
opaque_pixel p e = rw (same_byte p.r p.a e, same_byte p.g p.a e, same_byte p.b p.a e)

-- and where alpha stays 255, each channel is transformed as it stands
pub opaque_transformed : (t : FixedTransform) (p : Pixel) → transform_channel t.sa t.ba 255 ≡ 255 → p.a ≡ 255 → transformed t p ≡ transform_channels t p
unfolding transformed
opaque_transformed t p h e =
    ap (λ (q : Pixel). premultiplied (transform_channels t q)) same ∙ opaque_pixel (transform_channels t p) (ap (transform_channel t.sa t.ba) e ∙ h)
  where
    same : unpremultiplied p ≡ p
    same = λ i. record {
      r = sym (opaque_channel p.r p.a e) i;
      g = sym (opaque_channel p.g p.a e) i;
      b = sym (opaque_channel p.b p.a e) i;
      a = p.a;
    }
