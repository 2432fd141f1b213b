-- What the row functions go by: runs of a row, and a paint that hides what is under it. Bookkeeping of the engine: no promise to a
-- caller outside cites it, and a reviewer of the paper need not read it.
use Rattle.std.specs.Prelude.{◌≡◌, Bool, true, false, cond, List, ℕ, ◌+◌, ◌-◌, ◌*◌, ◌<◌, eqb}
use Rattle.runs.specs.Runs.{start_of}
use Rattle.color.specs.declared.Pixel.{Pixel}
use Rattle.raster.specs.declared.Range.{Range}
use Rattle.raster.specs.Surface.{pixel_in}
use Rattle.blend.specs.PorterDuff.{mode_src, mode_src_over, blended, stored, stored_unmasked}

-- how many pixels the runs from one to before another have
abbrev pub length_of : List ℕ → Range → ℕ
length_of runs some = start_of runs some.to - start_of runs some.from

-- a mode and a source alpha under which the source is taken whole and nothing of the destination is kept
abbrev pub hides : ℕ → ℕ → Bool
hides mode sa = cond (eqb mode mode_src) true (cond (eqb mode mode_src_over) (eqb sa 255) false)

-- the first n pixels of a paint all do
abbrev pub Hiding : ℕ → List ℕ → ℕ → Type 0
Hiding mode src n = (i : ℕ) → i < n → hides mode (pixel_in src i).a ≡ true

-- and have the alpha 255
abbrev pub Opaque : List ℕ → ℕ → Type 0
Opaque src n = (i : ℕ) → i < n → (pixel_in src i).a ≡ 255

-- a pixel as one number, the alpha highest
abbrev pub word_of : Pixel → ℕ
word_of p = p.r + p.g * 256 + p.b * 65536 + p.a * 16777216

-- four bytes that are the same
abbrev pub four_of : ℕ → Pixel
four_of c = record { r = c; g = c; b = c; a = c }

-- what a pixel's bytes keep of what is under them, under SrcOver
abbrev pub keep_pixel : Pixel → Pixel
keep_pixel s = four_of (255 - s.a)

-- B of each channel
abbrev pub blended_pixel : Pixel → ℕ → Pixel → ℕ → Pixel
blended_pixel s fs d fd = record {
  r = blended s.r fs d.r fd;
  g = blended s.g fs d.g fd;
  b = blended s.b fs d.b fd;
  a = blended s.a fs d.a fd;
}

-- what is stored of a pixel over another
abbrev pub stored_pixel : ℕ → Pixel → Pixel → Pixel
stored_pixel k b d = record {
  r = stored_unmasked k b.r d.r;
  g = stored_unmasked k b.g d.g;
  b = stored_unmasked k b.b d.b;
  a = stored_unmasked k b.a d.a;
}

-- and under a mask that has a byte for each of its bytes
abbrev pub masked_pixel : ℕ → Pixel → Pixel → Pixel → Pixel
masked_pixel k m b d = record {
  r = stored k m.r b.r d.r;
  g = stored k m.g b.g d.g;
  b = stored k m.b b.b d.b;
  a = stored k m.a b.a d.a;
}
