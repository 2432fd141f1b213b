-- Two pictures of one named size compared (paper 02, P7). A pixel's number is y·width + x.
use Rattle.std.specs.Prelude.{ℕ, zero, suc, ◌+◌, ◌*◌, ◌-◌, ◌/◌, ◌%◌, ◌≤◌, ◌<◌, min, max, ◌≡◌, Bool, cond, not, ◌&&◌, length, get_or, leb, eqb}
use mathlib.Core.List.{List, [], ◌∷◌, map, Memᴰ}
use Rattle.codes.specs.Codes.{accepted_code, illegal_argument, unsupported_image_format}
use Rattle.rect.specs.declared.Rect.{Rect}
use Rattle.rect.specs.Rects.{smallest}
use Rattle.color.specs.declared.Pixel.{Pixel}
use Rattle.raster.specs.Surface.{pixel_in}
use Rattle.difference.specs.declared.Comparison.{Comparison}

-- ---- what is refused: a width or height outside 1..1,024 first, then a surface of a wrong size
abbrev pub allowed_side : ℕ → Bool
allowed_side n = leb 1 n && leb n 1024

-- the code for two surfaces of so many bytes, 0 where they are compared
unfoldable pub refusal_code : ℕ → ℕ → ℕ → ℕ → ℕ
refusal_code width height a_bytes b_bytes =
    cond (not (allowed_side width && allowed_side height)) illegal_argument
    (cond (not (eqb a_bytes (4 * (width * height)) && eqb b_bytes (4 * (width * height)))) unsupported_image_format
    accepted_code)

-- ---- the differing pixels, by their numbers
unfoldable pub same_pixel : Pixel → Pixel → Bool
same_pixel p q = eqb p.r q.r && (eqb p.g q.g && (eqb p.b q.b && eqb p.a q.a))

abbrev pub differs : List ℕ → List ℕ → ℕ → Bool
differs a b i = not (same_pixel (pixel_in a i) (pixel_in b i))

-- those of the n numbers from i on that pass a test, in rising order
abbrev pub picked : (ℕ → Bool) → ℕ → ℕ → List ℕ
picked test i zero = []
picked test i (suc n) = cond (test i) (i ∷ picked test (suc i) n) (picked test (suc i) n)

unfoldable pub differing : ℕ → ℕ → List ℕ → List ℕ → List ℕ
differing width height a b = picked (differs a b) 0 (width * height)

-- the first, which is the least; 0 where there is none
abbrev pub first_of : List ℕ → ℕ
first_of [] = 0
first_of (i ∷ is) = i

-- the rectangle that holds pixel i alone, and the smallest that holds some pixels
abbrev pub pixel_rect : ℕ → ℕ → Rect
pixel_rect width i = record { x0 = i % width; y0 = i / width; x1 = i % width + 1; y1 = i / width + 1 }

unfoldable pub pixels_rect : ℕ → List ℕ → Rect
pixels_rect width is = smallest (map (pixel_rect width) is)

-- ---- the largest difference of any channel: each byte is a channel of a pixel, alpha too
abbrev pub apart : ℕ → ℕ → ℕ
apart m n = max m n - min m n

abbrev pub gap_at : List ℕ → List ℕ → ℕ → ℕ
gap_at a b j = apart (get_or a j 0) (get_or b j 0)

-- the greatest of f 0, .., f (n - 1); 0 where n is 0
abbrev pub greatest : ℕ → (ℕ → ℕ) → ℕ
greatest zero f = 0
greatest (suc n) f = max (greatest n f) (f n)

unfoldable pub largest_gap : ℕ → ℕ → List ℕ → List ℕ → ℕ
largest_gap width height a b = greatest (4 * (width * height)) (gap_at a b)

-- ---- answers
-- a refusal returns its code and zeros
abbrev pub refused : ℕ → Comparison
refused code = record { code = code; equal = 0; count = 0; x = 0; y = 0; width = 0; height = 0; largest = 0; least = 0 }

-- how many pixels differ, the smallest rectangle that holds them, the largest difference, the least number; `equal` is said where there is none
abbrev pub report : ℕ → Rect → ℕ → ℕ → Comparison
report count a largest least =
    record {
      code = 0;
      equal = cond (eqb count 0) 1 0;
      count = count;
      x = a.x0;
      y = a.y0;
      width = a.x1 - a.x0;
      height = a.y1 - a.y0;
      largest = largest;
      least = least;
    }

abbrev pub report_of : ℕ → List ℕ → ℕ → Comparison
report_of width is largest = report (length is) (pixels_rect width is) largest (first_of is)

unfoldable pub compare_answer : ℕ → ℕ → List ℕ → List ℕ → Comparison
compare_answer width height a b =
    cond (eqb (refusal_code width height (length a) (length b)) 0)
    (report_of width (differing width height a b) (largest_gap width height a b))
    (refused (refusal_code width height (length a) (length b)))

-- ---- what the promises speak of: a size, and two surfaces of it
pub record Allowed (width height : ℕ) : Type 0 where
  pub some_wide : 1 ≤ width
  pub wide : width ≤ 1024
  pub some_high : 1 ≤ height
  pub high : height ≤ 1024

pub record Comparable (width height : ℕ) (a b : List ℕ) : Type 0 where
  pub sides : Allowed width height
  pub first : length a ≡ 4 * (width * height)
  pub second : length b ≡ 4 * (width * height)

-- each number is below all that follow it, so none stands there twice
abbrev pub Rising : List ℕ → Type 0
Rising [] = Unit {0}
Rising (i ∷ is) = ((j : ℕ) → Memᴰ j is → i < j) × Rising is

-- the rectangle that is answered
abbrev pub area_of : Comparison → Rect
area_of r = record { x0 = r.x; y0 = r.y; x1 = r.x + r.width; y1 = r.y + r.height }

-- what equal pictures give
abbrev pub equal_answer : Comparison
equal_answer = record { code = 0; equal = 1; count = 0; x = 0; y = 0; width = 0; height = 0; largest = 0; least = 0 }
