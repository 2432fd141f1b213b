-- What holds of every transformed pixel, and what the values that document 001 begins with do.
use mathlib.Core.Path.{◌≡◌, refl, ◌∙◌}
use mathlib.Core.Bool.{Bool, true, false}
use Prim.Native.Nat.{ℕ, zero, suc, min, ◌+◌, ◌*◌, ◌/◌, ◌%◌, ◌<◌}
use native.Mathlib.Nat.{div-add-mod, mod-lt, mul-le-mul_left}
use native.Mathlib.Omega.{arith}
use borrow.Author.Tests.{ne_eqb, leb-true, leb-false}
use lib.Dec.{leb}
use lib.IntN.{ℤ, pos, ◌+ℤ◌, ◌*ℤ◌}
use lib.Ieee.{lt, neg}
use Rattle.fixed.specs.Floor.{floor_div}
use Rattle.color.specs.declared.Pixel.{Pixel}
use Rattle.color.specs.Channels.{premultiply, UnderAlpha}
use Rattle.color.proofs.Alpha.{premultiplied_under}
use Rattle.transform.specs.declared.FixedTransform.{FixedTransform}
use Rattle.transform.specs.Transforms.{fixed_scale, fixed_bias, fixed_transform, unpremultiply, unpremultiplied, identity_transform}
use Rattle.transform.specs.Transforms.{transform_channel, transform_channels, transformed}
use Rattle.transform.proofs.Bytes.{byte_small}

-- ---- no channel is above its alpha afterwards
channel_small : (scale bias : ℤ) (c : ℕ) → transform_channel scale bias c < 256
unfolding transform_channel
channel_small scale bias c = omega (arith, byte_small (floor_div (pos c *ℤ scale +ℤ pos 255 *ℤ bias +ℤ pos 128) 256))

pub transformed_under : (t : FixedTransform) (p : Pixel) → UnderAlpha (transformed t p)
unfolding transformed
transformed_under t p =
    let q = unpremultiplied p in
    premultiplied_under (transform_channels t q) (channel_small t.sr t.br q.r) (channel_small t.sg t.bg q.g)
    (channel_small t.sb t.bb q.b)

-- ---- scales 1 and biases 0
-- a channel stays, up to 255
same_channel : (c : ℕ) → transform_channel (pos 256) (pos 0) c ≡ min 255 c
unfolding transform_channel
same_channel c = omega arith

same_alpha : (a : ℕ) → a < 256 → transform_channel (pos 256) (pos 0) a ≡ a
same_alpha a s = let kept : min 255 a ≡ a = omega arith in same_channel a ∙ kept

-- q is the quotient of 510c + a by 2a: q a is less than 128 from 255c where c is at most a, and q is above 255 elsewhere
module _ (c a q m : ℕ) (e : 2 * a * q + m ≡ 510 * c + a) (l : m < 2 * a) (s : a < 256) where
  back_again : premultiply (min 255 q) a ≡ min c a
  back_again = by (leb c a) (leb q 255) refl refl
    where
      by : (t u : Bool) → leb c a ≡ t → leb q 255 ≡ u → premultiply (min 255 q) a ≡ min c a
      by true true g h =
          let under = leb-true c a g in
          let same : min 255 q ≡ q = omega (arith, leb-true q 255 h) in
          rw same (omega arith)
      by true false g h = absurd (omega (arith, leb-true c a g, mul-le-mul_left (2 * a) (leb-false q 255 h)))
      by false true g h = absurd (omega (arith, leb-false c a g, mul-le-mul_left (2 * a) (leb-true q 255 h)))
      by false false g h =
          let over = leb-false c a g in
          let full : min 255 q ≡ 255 = omega (arith, leb-false q 255 h) in
          rw full (omega arith)

-- out of premultiplied form and back, a channel is cut to its alpha
there_and_back : (c a : ℕ) → a < 256 → premultiply (min 255 (unpremultiply c a)) a ≡ min c a
unfolding unpremultiply
there_and_back c zero s = omega arith
there_and_back c (suc a) s =
    rw (ne_eqb (suc a) 0 (λ e. omega (arith, e)))
    (back_again c (suc a) ((510 * c + suc a) / (2 * suc a)) ((510 * c + suc a) % (2 * suc a)) (div-add-mod (510 * c + suc a) (2 * suc a))
    (mod-lt (510 * c + suc a) (omega arith)) s)

channel_again : (c a : ℕ) → a < 256 → premultiply (transform_channel (pos 256) (pos 0) (unpremultiply c a)) (transform_channel (pos 256) (pos 0) a) ≡ min c a
channel_again c a s = rw (same_channel (unpremultiply c a), same_alpha a s) (there_and_back c a s)

pub identity_cuts : (p : Pixel) → p.a < 256
    → transformed (fixed_transform identity_transform) p ≡ record { r = min p.r p.a; g = min p.g p.a; b = min p.b p.a; a = p.a }
unfolding transformed fixed_scale fixed_bias lt neg
identity_cuts p s = λ i. record {
  r = channel_again p.r p.a s i;
  g = channel_again p.g p.a s i;
  b = channel_again p.b p.a s i;
  a = same_alpha p.a s i;
}

pub identity_keeps : (p : Pixel) → p.a < 256 → UnderAlpha p → transformed (fixed_transform identity_transform) p ≡ p
identity_keeps p s u =
    let same-r : min p.r p.a ≡ p.r = omega (arith, u.r) in
    let same-g : min p.g p.a ≡ p.g = omega (arith, u.g) in
    let same-b : min p.b p.a ≡ p.b = omega (arith, u.b) in
    identity_cuts p s ∙ rw (same-r, same-g, same-b)
