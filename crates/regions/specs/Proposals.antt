-- Rectangles that anyone proposes for a redraw, in a list of signed numbers: x, y, width, height for each (paper 02, P11).
use Rattle.std.specs.Prelude.{ℕ, ◌+◌, ◌*◌, ◌/◌, ◌%◌, ◌≤◌, ◌<◌, ◌≡◌, List, [], ◌∷◌, Bool, true, cond, ◌&&◌, length, get_or, eqb, leb, ℤ, pos, nat_abs, ◌+ℤ◌}
use Rattle.std.specs.Int.Signed.{le_z, lt_z}
use Rattle.lists.specs.Lists.{tab}
use Rattle.rect.specs.declared.Rect.{Rect}
use Rattle.rect.specs.Rects.{Inside, whole, smallest}
use Rattle.damage.specs.Damage.{changed_boxes, same_background}
use Rattle.regions.specs.Pixels.{every, each, apart, in_any, covers}

-- ---- the rectangles
-- the numbers of rectangle k
abbrev pub x_at : List ℤ → ℕ → ℤ
x_at l k = get_or l (k * 4) (pos 0)

abbrev pub y_at : List ℤ → ℕ → ℤ
y_at l k = get_or l (k * 4 + 1) (pos 0)

abbrev pub width_at : List ℤ → ℕ → ℤ
width_at l k = get_or l (k * 4 + 2) (pos 0)

abbrev pub height_at : List ℤ → ℕ → ℤ
height_at l k = get_or l (k * 4 + 3) (pos 0)

-- rectangle k, whose numbers are not negative
abbrev pub proposed_at : List ℤ → ℕ → Rect
proposed_at l k = record {
  x0 = nat_abs (x_at l k);
  y0 = nat_abs (y_at l k);
  x1 = nat_abs (x_at l k) + nat_abs (width_at l k);
  y1 = nat_abs (y_at l k) + nat_abs (height_at l k);
}

-- all of them: the pixels of their union are those that are in one of these
abbrev pub proposed : List ℤ → List Rect
proposed l = tab (length l / 4) (proposed_at l)

-- the least rectangle round the union
abbrev pub round_of : List ℤ → Rect
round_of l = smallest (proposed l)

-- ---- the rules
-- one to four, none in part
abbrev pub counted : ℕ → Bool
counted n = eqb (n % 4) 0 && (leb 4 n && leb n 16)

-- along one axis: a size above 0, and all of it from 0 up to the limit, as whole numbers without wrap
abbrev pub lies : ℤ → ℤ → ℕ → Bool
lies start size limit = le_z (pos 0) start && (lt_z (pos 0) size && le_z (start +ℤ size) (pos limit))

-- rectangle k lies in a surface of w by h pixels, with width and height above 0
unfoldable pub lies_in : ℕ → ℕ → List ℤ → ℕ → Bool
lies_in w h l k = lies (x_at l k) (width_at l k) w && lies (y_at l k) (height_at l k) h

-- no two of n share a pixel
abbrev pub all_apart : ℕ → (ℕ → Rect) → Bool
all_apart n rs = every n (λ i. every i (λ j. apart (rs i) (rs j)))

-- what a proposal for a change of scenes has to cover: the boxes, old and new, of the changed draws, or the surface if the background differs
unfoldable pub to_cover : ℕ → ℕ → List ℕ → List ℕ → List Rect
to_cover w h old new = cond (same_background old new) (changed_boxes w h old new) (whole w h ∷ [])

-- a proposal is accepted, on a surface of w by h pixels, for boxes that it has to cover
unfoldable pub acceptable : ℕ → ℕ → List Rect → List ℤ → Bool
acceptable w h boxes l =
    counted (length l)
    && (every (length l / 4) (lies_in w h l)
    && (all_apart (length l / 4) (proposed_at l)
    && each (covers (proposed l)) boxes))

-- ---- the same as facts
pub record Acceptable (w h : ℕ) (boxes : List Rect) (l : List ℤ) : Type 0 where
  pub whole : length l % 4 ≡ 0
  pub some : 4 ≤ length l
  pub few : length l ≤ 16
  pub lying : (k : ℕ) → k < length l / 4 → lies_in w h l k ≡ true
  pub disjoint : (i j x y : ℕ) → i < length l / 4 → j < i → Inside (proposed_at l i) x y → Inside (proposed_at l j) x y → ⊥
  pub covering : (x y : ℕ) → in_any boxes x y ≡ true → in_any (proposed l) x y ≡ true
