-- No channel above its alpha (paper 02, P2): the step keeps to it, whatever the mode, the coverage and the mask, and a destination that keeps to it
-- is read as it stands.
use mathlib.Core.Path.{◌≡◌, refl, sym, ap, ◌∙◌}
use mathlib.Core.Bool.{Bool, true, false, cond}
use Prim.Native.Nat.{ℕ, min, ◌-◌, ◌*◌, ◌≤◌, ◌<◌}
use native.Mathlib.Nat.{mul-le-mul_right}
use native.Mathlib.Omega.{arith}
use lib.Dec.{eqb}
use borrow.Author.Tests.{eqb-true}
use Rattle.color.specs.declared.Pixel.{Pixel}
use Rattle.color.specs.Channels.{UnderAlpha}
use Rattle.blend.specs.PorterDuff.{source_factor, destination_factor, blended, stored, composite_byte, clamped, composite_on, composite}
use Rattle.blend.proofs.Masks.{uncovered_masked}
use Rattle.blend.proofs.Shortcuts.{covered_reads}

-- ---- both formulas grow with their bytes
blended_grows : (s t d e fs fd : ℕ) → s ≤ t → d ≤ e → blended s fs d fd ≤ blended t fs e fd
blended_grows s t d e fs fd h k = omega (arith, mul-le-mul_right fs h, mul-le-mul_right fd k)

stored_grows : (k m b c d e : ℕ) → b ≤ c → d ≤ e → stored k m b d ≤ stored k m c e
stored_grows k m b c d e h l = omega (arith, mul-le-mul_right m (mul-le-mul_right k h), mul-le-mul_right (4080 - k * m) l)

-- and a channel and its alpha have the same factors
byte_under : (mode k m sa da s d : ℕ) → s ≤ sa → d ≤ da → composite_byte mode k m sa da s d ≤ composite_byte mode k m sa da sa da
unfolding composite_byte
byte_under mode k m sa da s d h l = stored_grows k m _ _ d da (blended_grows s sa d da (source_factor mode da) (destination_factor mode sa) h l) l

pub stored_under : (mode k m : ℕ) (s d : Pixel) → UnderAlpha s → UnderAlpha d → UnderAlpha (composite_on mode k m s d)
stored_under mode k m s d p q = record {
  r = byte_under mode k m s.a d.a s.r d.r p.r q.r;
  g = byte_under mode k m s.a d.a s.g d.g p.g q.g;
  b = byte_under mode k m s.a d.a s.b d.b p.b q.b;
}

-- ---- a destination as it is read
clamped_under : (d : Pixel) → UnderAlpha (clamped d)
clamped_under d = record { r = omega arith; g = omega arith; b = omega arith }

clamp_keeps : (d : Pixel) → UnderAlpha d → clamped d ≡ d
clamp_keeps d h =
    let r : min d.r d.a ≡ d.r = omega (arith, h.r) in
    let g : min d.g d.a ≡ d.g = omega (arith, h.g) in
    let b : min d.b d.a ≡ d.b = omega (arith, h.b) in
    rw (r, g, b)

-- ---- what is stored with k above 0, on any destination
pub composite_under : (mode k m : ℕ) (s d : Pixel) → 0 < k → UnderAlpha s → UnderAlpha (composite mode k m s d)
composite_under mode k m s d h p = rw (← covered_reads mode k m s d (λ e. omega (arith, e))) (stored_under mode k m s (clamped d) p (clamped_under d))

-- ---- on a destination with no channel above its alpha the step is the one without the clamp
pub sound_as_stands : (mode k m : ℕ) (s d : Pixel) → UnderAlpha d → composite_on mode k m s d ≡ composite mode k m s d
unfolding composite
sound_as_stands mode k m s d h = by (eqb k 0) refl
  where
    by : (t : Bool) → eqb k 0 ≡ t → composite_on mode k m s d ≡ cond t d (composite_on mode k m s (clamped d))
    by true e = ap (λ (j : ℕ). composite_on mode j m s d) (eqb-true k 0 e) ∙ uncovered_masked mode m s d
    by false e = ap (composite_on mode k m s) (sym (clamp_keeps d h))
