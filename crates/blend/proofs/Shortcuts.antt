-- Where the step on a pixel needs less than the whole of its arithmetic: nothing covered, a paint that hides, a full coverage.
use mathlib.Core.Path.{◌≡◌, refl, sym, subst, ◌∙◌}
use mathlib.Core.Bool.{Bool, true, false, cond}
use Prim.Native.Nat.{ℕ, ◌<◌}
use lib.Dec.{T, eqb}
use borrow.Author.Tests.{eqb-true, ne_eqb}
use Rattle.color.specs.declared.Pixel.{Pixel}
use Rattle.blend.specs.PorterDuff.{mode_src, mode_src_over, source_factor, destination_factor, stored_unmasked}
use Rattle.blend.specs.PorterDuff.{clamped, composite_on, composite}
use Rattle.blend.specs.Unmasked.{unmasked_byte, unmasked_on}
use Rattle.blend.specs.Spans.{hides, stored_pixel}
use Rattle.blend.proofs.Channel.{uncovered_byte, covered_byte, replaced_byte}

-- where no sample is covered the pixel stays as it is; elsewhere it is read clamped
pub uncovered_keeps : (mode m : ℕ) (s d : Pixel) → composite mode 0 m s d ≡ d
unfolding composite
uncovered_keeps mode m s d = refl

pub covered_reads : (mode k m : ℕ) (s d : Pixel) → (k ≡ 0 → ⊥) → composite_on mode k m s (clamped d) ≡ composite mode k m s d
unfolding composite
covered_reads mode k m s d h = rw (ne_eqb k 0 h)

-- what is stored over a pixel where no sample is covered is that pixel
pub uncovered_stores : (mode : ℕ) (s d : Pixel) → unmasked_on mode 0 s d ≡ d
unfolding unmasked_byte
uncovered_stores mode s d =
    rw (uncovered_byte _ d.r, uncovered_byte _ d.g, uncovered_byte _ d.b, uncovered_byte _ d.a)

-- a paint that hides is Src, or SrcOver with an opaque source: Fs is 1 and Fd is 0
by_tests : {C : Type 0} (a b c : Bool) → cond a true (cond b c false) ≡ true → (a ≡ true → C) → (b ≡ true → c ≡ true → C) → C
by_tests true b c h f g = f refl
by_tests false true true h f g = g refl refl
by_tests false true false h f g = absurd (subst T (sym h) tt)
by_tests false false c h f g = absurd (subst T (sym h) tt)

by_hiding : {C : Type 0} (mode sa : ℕ) → hides mode sa ≡ true → (mode ≡ mode_src → C) → (mode ≡ mode_src_over → sa ≡ 255 → C) → C
by_hiding mode sa h f g =
    by_tests (eqb mode mode_src) (eqb mode mode_src_over) (eqb sa 255) h (λ e. f (eqb-true mode mode_src e))
    (λ e q. g (eqb-true mode mode_src_over e) (eqb-true sa 255 q))

hiding_source : (mode sa da : ℕ) → hides mode sa ≡ true → source_factor mode da ≡ 255
unfolding source_factor
hiding_source mode sa da h = by_hiding mode sa h (λ e. rw e) (λ e q. rw e)

hiding_destination : (mode sa : ℕ) → hides mode sa ≡ true → destination_factor mode sa ≡ 0
unfolding destination_factor
hiding_destination mode sa h = by_hiding mode sa h (λ e. rw e) (λ e q. rw (e, q))

-- its bytes are stored as they are
hidden_byte : (mode k da : ℕ) (sa s d : ℕ) → s < 256 → hides mode sa ≡ true → unmasked_byte mode k sa da s d ≡ stored_unmasked k s d
unfolding unmasked_byte
hidden_byte mode k da sa s d l h = rw (hiding_source mode sa da h, hiding_destination mode sa h, replaced_byte s d l)

pub hiding_stores : (mode k : ℕ) (s d : Pixel) → s.r < 256 → s.g < 256 → s.b < 256 → s.a < 256 → hides mode s.a ≡ true
    → unmasked_on mode k s d ≡ stored_pixel k s d
hiding_stores mode k s d r g b a h =
    rw (
      hidden_byte mode k d.a s.a s.r d.r r h,
      hidden_byte mode k d.a s.a s.g d.g g h,
      hidden_byte mode k d.a s.a s.b d.b b h,
      hidden_byte mode k d.a s.a s.a d.a a h,
    )

-- under a full coverage nothing is left of what was there
pub covered_stores : (s d : Pixel) → stored_pixel 16 s d ≡ s
covered_stores s d = rw (covered_byte s.r d.r, covered_byte s.g d.g, covered_byte s.b d.b, covered_byte s.a d.a)

pub hiding_replaces : (mode : ℕ) (s d : Pixel) → s.r < 256 → s.g < 256 → s.b < 256 → s.a < 256 → hides mode s.a ≡ true → unmasked_on mode 16 s d ≡ s
hiding_replaces mode s d r g b a h = hiding_stores mode 16 s d r g b a h ∙ covered_stores s d
