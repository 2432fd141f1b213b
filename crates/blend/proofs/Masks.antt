-- The step under a mask (paper 02, P6): sizes, the quotient by 4,080, and what it is with m = 255 and with no sample covered.
use mathlib.Core.Path.{◌≡◌, sym, ap, ap₂, ◌∙◌}
use mathlib.Core.List.{List}
use Prim.Native.Nat.{ℕ, ◌+◌, ◌-◌, ◌*◌, ◌/◌, ◌≤◌, ◌<◌}
use native.Mathlib.Nat.{mul-le-mul, mul-le-mul_right}
use native.Mathlib.Omega.{arith}
use lib.ListN.{length, get_or}
use Rattle.runs.specs.Runs.{start_of, expand, Runs}
use Rattle.runs.proofs.Expand.{runs_length}
use Rattle.color.specs.declared.Pixel.{Pixel}
use Rattle.raster.specs.Surface.{run, pixel_in}
use Rattle.raster.specs.Rows.{Stored}
use Rattle.raster.proofs.Pixels.{run_at}
use Rattle.raster.proofs.Runs.{run_same, stored_all}
use Rattle.blend.specs.PorterDuff.{blended, stored, stored_unmasked, source_factor, destination_factor, composite_byte, composite_on}
use Rattle.blend.specs.Unmasked.{unmasked_byte, unmasked_on}
use Rattle.blend.specs.Rows.{Coverage, composite_row}
use Rattle.blend.specs.Spans.{four_of, masked_pixel}
use Rattle.blend.proofs.Channel.{covered_byte}

-- ---- the quotient by 4,080 is one by 16, then by 255

-- ---- sizes: the weight k m, of 4,080, and what is divided

-- ---- with m = 255 it is the old formula
quotients : (p q n : ℕ) → n ≡ 255 * p + 255 * q → (n + 2040) / 4080 ≡ (p + q + 8) / 16
quotients p q n e = omega arith

pub whole_mask : (k b d : ℕ) → k ≤ 16 → stored k 255 b d ≡ stored_unmasked k b d
whole_mask k b d h = quotients (b * k) (d * (16 - k)) (b * k * 255 + d * (4080 - k * 255)) (omega (arith, kept))
  where
    rest : 4080 - k * 255 ≡ 255 * (16 - k)
    rest = omega arith

    kept : d * (4080 - k * 255) ≡ 255 * (d * (16 - k))
    kept = rw rest (omega arith)

byte_whole : (mode k sa da s d : ℕ) → k ≤ 16 → unmasked_byte mode k sa da s d ≡ composite_byte mode k 255 sa da s d
unfolding composite_byte unmasked_byte
byte_whole mode k sa da s d h = rw (whole_mask k _ d h)

pub whole_mask_step : (mode k : ℕ) (s d : Pixel) → k ≤ 16 → unmasked_on mode k s d ≡ composite_on mode k 255 s d
whole_mask_step mode k s d h =
    rw (
      byte_whole mode k s.a d.a s.r d.r h,
      byte_whole mode k s.a d.a s.g d.g h,
      byte_whole mode k s.a d.a s.b d.b h,
      byte_whole mode k s.a d.a s.a d.a h,
    )

-- a row of it, of one paint, when it is blended along all runs of the row
pub runs_blended : (mode : ℕ) (runs : List ℕ) (n w : ℕ) → Runs runs n w → Coverage (expand runs n) → (src : Pixel) (s d : List ℕ) (a : ℕ) → length d ≡ w * 4
    → a ≡ start_of runs n → Stored (λ i. unmasked_on mode (get_or (expand runs n) i 0) src (pixel_in d i)) d a s
    → s ≡ composite_row mode (expand runs n) (λ i. 255) (λ i. src) d
runs_blended mode runs n w r c src s d a l e o =
    let size = runs_length runs n w r in
    stored_all o (length (expand runs n)) (e ∙ r.last ∙ sym size) (l ∙ ap (λ (m : ℕ). m * 4) (sym size))
    ∙ run_same (length (expand runs n)) _ _ (λ i h. whole_mask_step mode (get_or (expand runs n) i 0) src (pixel_in d i) (c i h))

-- ---- what is stored is B, as it is where all is covered and nothing masked, by the mask's weight
masked_byte : (mode k m sa da s d : ℕ) → composite_byte mode k m sa da s d ≡ stored k m (unmasked_byte mode 16 sa da s d) d
unfolding composite_byte unmasked_byte
masked_byte mode k m sa da s d = rw (covered_byte (blended s (source_factor mode da) d (destination_factor mode sa)) d)

pub masked_step : (mode k m : ℕ) (s d : Pixel) → composite_on mode k m s d ≡ masked_pixel k (four_of m) (unmasked_on mode 16 s d) d
masked_step mode k m s d =
    rw (
      masked_byte mode k m s.a d.a s.r d.r,
      masked_byte mode k m s.a d.a s.g d.g,
      masked_byte mode k m s.a d.a s.b d.b,
      masked_byte mode k m s.a d.a s.a d.a,
    )

-- a row of it, of a row of B and a mask spread over the bytes
pub masked_pixels : (n mode k : ℕ) (mask src d b wide r : List ℕ) → b ≡ run n (λ i. unmasked_on mode 16 (pixel_in src i) (pixel_in d i))
    → wide ≡ run n (λ i. four_of (get_or mask i 0)) → r ≡ run n (λ i. masked_pixel k (pixel_in wide i) (pixel_in b i) (pixel_in d i))
    → r ≡ run n (λ i. composite_on mode k (get_or mask i 0) (pixel_in src i) (pixel_in d i))
masked_pixels n mode k mask src d b wide r e f o =
    o
    ∙ run_same n (λ i. masked_pixel k (pixel_in wide i) (pixel_in b i) (pixel_in d i)) (λ i. composite_on mode k (get_or mask i 0) (pixel_in src i)
    (pixel_in d i))
    (λ i l.
    ap₂ (λ (m c : Pixel). masked_pixel k m c (pixel_in d i)) (weight i l) (made i l)
    ∙ sym (masked_step mode k (get_or mask i 0) (pixel_in src i) (pixel_in d i)))
  where
    weight : (i : ℕ) → i < n → pixel_in wide i ≡ four_of (get_or mask i 0)
    weight i l = ap (λ (s : List ℕ). pixel_in s i) f ∙ run_at n (λ i. four_of (get_or mask i 0)) i l

    made : (i : ℕ) → i < n → pixel_in b i ≡ unmasked_on mode 16 (pixel_in src i) (pixel_in d i)
    made i l = ap (λ (s : List ℕ). pixel_in s i) e ∙ run_at n (λ i. unmasked_on mode 16 (pixel_in src i) (pixel_in d i)) i l

-- ---- with no sample covered a pixel keeps its bytes, whatever m is
uncovered_byte : (m b d : ℕ) → stored 0 m b d ≡ d
uncovered_byte m b d =
    let a : b * 0 * m ≡ 0 = omega arith in
    let w : 0 * m ≡ 0 = omega arith in
    rw (a, w) (omega arith)

pub uncovered_masked : (mode m : ℕ) (s d : Pixel) → composite_on mode 0 m s d ≡ d
unfolding composite_byte
uncovered_masked mode m s d =
    rw (uncovered_byte m _ d.r, uncovered_byte m _ d.g, uncovered_byte m _ d.b, uncovered_byte m _ d.a)
