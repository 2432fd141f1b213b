-- How far the loops over pixels and over rows have come, and where they write. A reviewer of the paper need not read it.
use Rattle.std.specs.Prelude.{◌≡◌, cond, List, ℕ, ◌+◌, ◌*◌, ◌≤◌, ◌<◌, length, set}
use Rattle.lists.specs.Lists.{over}
use Rattle.rect.specs.declared.Rect.{Rect}
use Rattle.rect.specs.Rects.{On, inside}
use Rattle.color.specs.declared.Pixel.{Pixel}
use Rattle.raster.specs.Surface.{run, pixel_of, overlay}
use Rattle.raster.specs.declared.Target.{Target}

-- ---- pixels
-- s with the ith pixel p
abbrev pub put_pixel : List ℕ → ℕ → Pixel → List ℕ
put_pixel s i p = set (set (set (set s (i * 4) p.r) (i * 4 + 1) p.g) (i * 4 + 2) p.b) (i * 4 + 3) p.a

-- s is d with the pixels f 0, .., f (i - 1) stored
pub record Stored (f : ℕ → Pixel) (d : List ℕ) (i : ℕ) (s : List ℕ) : Type 0 where
  pub long : length s ≡ length d
  pub same : s ≡ over (run i f) d

-- ---- rows
-- the rectangle lies on the surface, which has at most 1,024 by 1,024 pixels
pub record Placed (t : Target) : Type 0 where
  pub on : On t.width t.height t.area
  pub wide : t.width ≤ 1024
  pub high : t.height ≤ 1024

-- and s is the surface
pub record Part (t : Target) (s : List ℕ) : Type 0 where
  pub placed : Placed t
  pub long : length s ≡ t.height * (t.width * 4)

-- the same surface, with another rectangle
abbrev pub cut : Target → ℕ → ℕ → ℕ → ℕ → Target
cut t x0 y0 x1 y1 = record { width = t.width; height = t.height; area = record { x0 = x0; y0 = y0; x1 = x1; y1 = y1 } }

-- a hole that has a pixel lies in a rectangle
pub record Framed (a hole : Rect) : Type 0 where
  pub left : a.x0 ≤ hole.x0
  pub across : hole.x0 < hole.x1
  pub right : hole.x1 ≤ a.x1
  pub below : a.y0 ≤ hole.y0
  pub up : hole.y0 < hole.y1
  pub above : hole.y1 ≤ a.y1

-- s with p at every pixel of the rectangle but those in the hole
abbrev pub filled_around : Target → Rect → Pixel → List ℕ → List ℕ
filled_around t hole p s = overlay t.width t.height t.area (λ x y. cond (inside hole x y) (pixel_of t.width s x y) p) s

-- s with g done at every pixel of the rectangle
abbrev pub stepped : Target → (ℕ → ℕ → Pixel → Pixel) → List ℕ → List ℕ
stepped t g s = overlay t.width t.height t.area (λ x y. g x y (pixel_of t.width s x y)) s

-- the rows of a below y
abbrev pub rows_to : Rect → ℕ → Rect
rows_to a y = record { x0 = a.x0; y0 = a.y0; x1 = a.x1; y1 = y }

-- s is d with g done in the rows below y
pub record Rows (t : Target) (g : ℕ → ℕ → Pixel → Pixel) (d : List ℕ) (y : ℕ) (s : List ℕ) : Type 0 where
  pub low : t.area.y0 ≤ y
  pub high : y ≤ t.area.y1
  pub long : length s ≡ length d
  pub same : s ≡ overlay t.width t.height (rows_to t.area y) (λ u v. g u v (pixel_of t.width d u v)) d
