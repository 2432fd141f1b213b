-- What is found of some rows, the top one first. A reviewer of the paper need not read it.
use Rattle.std.specs.Prelude.{ℕ, ◌+◌, ◌*◌, ◌≤◌, max, length}
use mathlib.Core.List.{List, foldr}
use Rattle.rect.specs.Rects.{On, none, join_of}
use Rattle.difference.specs.declared.Found.{Found}
use Rattle.difference.specs.Compare.{differs, picked, differing, pixels_rect, first_of, gap_at, greatest, largest_gap}

-- of pixels with these numbers, with that largest difference
abbrev pub found_of : ℕ → List ℕ → ℕ → Found
found_of width is largest = record { count = length is; area = pixels_rect width is; largest = largest; least = first_of is }

-- of two whole pictures
abbrev pub all_found : ℕ → ℕ → List ℕ → List ℕ → Found
all_found width height a b = found_of width (differing width height a b) (largest_gap width height a b)

abbrev pub nothing_found : Found
nothing_found = record { count = 0; area = none; largest = 0; least = 0 }

-- pixel (x, y) differs too; those noted before have greater numbers
abbrev pub with_pixel : ℕ → ℕ → ℕ → Found → Found
with_pixel width y x f =
    record {
      count = f.count + 1;
      area = join_of f.area (record { x0 = x; y0 = y; x1 = x + 1; y1 = y + 1 });
      largest = f.largest;
      least = y * width + x;
    }

-- with the differing ones of the n pixels from x on, of a row y that holds a and b
unfoldable pub with_pixels : ℕ → ℕ → List ℕ → List ℕ → ℕ → ℕ → Found → Found
with_pixels width y a b x n f = foldr (with_pixel width y) f (picked (differs a b) x n)

abbrev pub with_largest : ℕ → Found → Found
with_largest gap f = record { count = f.count; area = f.area; largest = max f.largest gap; least = f.least }

unfoldable pub with_row : ℕ → ℕ → List ℕ → List ℕ → Found → Found
with_row width y a b f = with_pixels width y a b 0 width (with_largest (greatest (width * 4) (gap_at a b)) f)

-- it is of the rows from y on of a picture that is so wide; the product keeps the count small
pub record Noted (width y : ℕ) (f : Found) : Type 0 where
  pub narrow : width ≤ 1024
  pub low : y ≤ 1024
  pub few : f.count + y * width ≤ 1024 * width
  pub on : On width 1024 f.area
  pub small : f.least ≤ 1048576

-- it fits an answer
pub record Small (f : Found) : Type 0 where
  pub few : f.count ≤ 1048576
  pub on : On 1024 1024 f.area
  pub small : f.least ≤ 1048576
