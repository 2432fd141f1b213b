-- Rows made byte by byte: bytes that make the right pixels are a run of them.
use mathlib.Core.Path.{◌≡◌, refl, ap, ◌∙◌}
use mathlib.Core.List.{List, [], ◌∷◌}
use Prim.Native.Nat.{ℕ, ◌+◌, ◌-◌, ◌*◌, ◌/◌, ◌%◌, ◌≤◌, ◌<◌}
use native.Mathlib.Omega.{arith}
use lib.Bits.{bit_or, or_shifted_r}
use lib.ListN.{get_or}
use Rattle.lists.specs.Lists.{tab}
use Rattle.lists.proofs.Laws.{upto_same, tab_length, tab_at}
use Rattle.color.specs.declared.Pixel.{Pixel}
use Rattle.raster.specs.Surface.{run, pixel_in}
use Rattle.raster.proofs.Pixels.{run_at}
use Rattle.raster.proofs.Runs.{run_is}
use Rattle.blend.specs.PorterDuff.{mode_src_over, blended, stored, stored_unmasked, source_factor, destination_factor}
use Rattle.blend.specs.Unmasked.{unmasked_byte, unmasked_on}
use Rattle.blend.specs.Spans.{keep_pixel, stored_pixel, masked_pixel, word_of}
use Rattle.blend.proofs.Channel.{covered_byte}

-- four bytes of a table, one after the other
abbrev pixel_by : (ℕ → ℕ) → ℕ → Pixel
pixel_by g i = record { r = g (i * 4); g = g (i * 4 + 1); b = g (i * 4 + 2); a = g (i * 4 + 3) }

bytes_are_pixels : (n : ℕ) (g : ℕ → ℕ) (f : ℕ → Pixel) → ((i : ℕ) → i < n → pixel_by g i ≡ f i) → tab (n * 4) g ≡ run n f
bytes_are_pixels n g f h =
    run_is n f (tab (n * 4) g) (tab_length (n * 4) g)
    (λ i l.
    rw (
      tab_at (n * 4) g (i * 4) 0 (omega arith),
      tab_at (n * 4) g (i * 4 + 1) 0 (omega arith),
      tab_at (n * 4) g (i * 4 + 2) 0 (omega arith),
      tab_at (n * 4) g (i * 4 + 3) 0 (omega arith),
    ) (h i l))

-- ---- bytes that are stored as they are
abbrev pub stored_at : ℕ → List ℕ → List ℕ → ℕ → ℕ
stored_at k s d j = stored_unmasked k (get_or s j 0) (get_or d j 0)

pub stored_bytes : (n k : ℕ) (s d : List ℕ) → tab (n * 4) (stored_at k s d) ≡ run n (λ i. stored_pixel k (pixel_in s i) (pixel_in d i))
stored_bytes n k s d = bytes_are_pixels n (stored_at k s d) (λ i. stored_pixel k (pixel_in s i) (pixel_in d i)) (λ i l. refl)

-- ---- bytes that are stored under a mask, with a byte of it for each
abbrev pub masked_at : ℕ → List ℕ → List ℕ → List ℕ → ℕ → ℕ
masked_at k m s d j = stored k (get_or m j 0) (get_or s j 0) (get_or d j 0)

pub masked_bytes : (n k : ℕ) (m s d : List ℕ) → tab (n * 4) (masked_at k m s d) ≡ run n (λ i. masked_pixel k (pixel_in m i) (pixel_in s i) (pixel_in d i))
masked_bytes n k m s d = bytes_are_pixels n (masked_at k m s d) (λ i. masked_pixel k (pixel_in m i) (pixel_in s i) (pixel_in d i)) (λ i l. refl)

-- ---- bytes under SrcOver, with what they keep of what is under them in f
abbrev pub over_at : List ℕ → List ℕ → List ℕ → ℕ → ℕ
over_at s f d j = blended (get_or s j 0) 255 (get_or d j 0) (get_or f j 0)

abbrev pub over_stored_at : ℕ → List ℕ → List ℕ → List ℕ → ℕ → ℕ
over_stored_at k s f d j = stored_unmasked k (over_at s f d j) (get_or d j 0)

over_byte : (k sa da s d : ℕ) → unmasked_byte mode_src_over k sa da s d ≡ stored_unmasked k (blended s 255 d (255 - sa)) d
unfolding unmasked_byte source_factor destination_factor
over_byte k sa da s d = refl

module _ (n : ℕ) (s f d : List ℕ) (e : f ≡ run n (λ i. keep_pixel (pixel_in s i))) where
  kept : (i : ℕ) → i < n → pixel_in f i ≡ keep_pixel (pixel_in s i)
  kept i l = rw e (run_at n (λ i. keep_pixel (pixel_in s i)) i l)

  pub over_stored_bytes : (k : ℕ) → tab (n * 4) (over_stored_at k s f d) ≡ run n (λ i. unmasked_on mode_src_over k (pixel_in s i) (pixel_in d i))
  over_stored_bytes k =
      bytes_are_pixels n (over_stored_at k s f d) (λ i. unmasked_on mode_src_over k (pixel_in s i) (pixel_in d i)) (λ i l. same i (kept i l))
    where
      same : (i : ℕ) → pixel_in f i ≡ keep_pixel (pixel_in s i) → pixel_by (over_stored_at k s f d) i ≡ unmasked_on mode_src_over k (pixel_in s i)
          (pixel_in d i)
      same i q =
          rw (
            over_byte k (pixel_in s i).a (pixel_in d i).a (pixel_in s i).r (pixel_in d i).r,
            over_byte k (pixel_in s i).a (pixel_in d i).a (pixel_in s i).g (pixel_in d i).g,
            over_byte k (pixel_in s i).a (pixel_in d i).a (pixel_in s i).b (pixel_in d i).b,
            over_byte k (pixel_in s i).a (pixel_in d i).a (pixel_in s i).a (pixel_in d i).a,
            ap (λ (p : Pixel). p.r) q,
            ap (λ (p : Pixel). p.g) q,
            ap (λ (p : Pixel). p.b) q,
            ap (λ (p : Pixel). p.a) q,
          )

  -- all that is covered
  pub over_bytes : tab (n * 4) (over_at s f d) ≡ run n (λ i. unmasked_on mode_src_over 16 (pixel_in s i) (pixel_in d i))
  over_bytes =
      upto_same (n * 4) (λ j. over_at s f d j ∷ []) (λ j. over_stored_at 16 s f d j ∷ []) (λ j l. rw (covered_byte (over_at s f d j) (get_or d j 0)))
      ∙ over_stored_bytes 16

-- ---- a pixel's number tells whether its alpha is 255

-- ---- and a number whose four bytes are f
pub four_bytes : (f : ℕ) → f < 256
    → (f * 16843009 % 256 ≡ f) × (f * 16843009 / 256 % 256 ≡ f) × (f * 16843009 / 65536 % 256 ≡ f) × (f * 16843009 / 16777216 ≡ f)
four_bytes f h =
    let high : f * 16843009 / 256 ≡ f * 65793 = omega arith in
    let higher : f * 16843009 / 65536 ≡ f * 257 = omega arith in
    (omega arith, rw high (omega arith), rw higher (omega arith), omega arith)

-- the highest byte of what is left of a number of 32 bits up to the greatest, laid beside itself, and both beside themselves
pub left_laid : (w a : ℕ) → w < 4294967296 → w / 16777216 ≡ a
    → (bit_or ((4294967295 - w) / 16777216) ((4294967295 - w) / 16777216 * 256) ≡ (255 - a) * 257)
    × (bit_or ((255 - a) * 257) ((255 - a) * 257 * 65536) ≡ (255 - a) * 16843009)
left_laid w a h e =
    let f = 255 - a in
    let highest : (4294967295 - w) / 16777216 ≡ f = omega arith in
    (rw highest (or_shifted_r f 8 f (omega arith) ∙ omega arith), or_shifted_r (f * 257) 16 (f * 257) (omega arith) ∙ omega arith)
