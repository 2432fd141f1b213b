-- The redrawn area: the smallest rectangle that holds the boxes, old and new, of the changed draws ("The redrawn area").
use Rattle.std.specs.Prelude.{ℕ, max, List, [], ◌∷◌, Bool, true, cond, not, ◌&&◌, ltb, eqb}
use Rattle.lists.specs.Lists.{upto}
use Rattle.color.specs.declared.Pixel.{Pixel}
use Rattle.rect.specs.declared.Rect.{Rect}
use Rattle.rect.specs.Rects.{none, whole, smallest}
use Rattle.path.specs.Boxes.{box_of}
use Rattle.scene.specs.Blocks.{draw_of, same_draw}
use Rattle.scene.specs.Header.{width_of, height_of, count_of, edition_of, background_of}
use Rattle.engine.specs.Picture.{draw_edges}

-- the scene has a draw i
abbrev pub has : List ℕ → ℕ → Bool
has s i = ltb i (count_of s)

abbrev pub same_edition : List ℕ → List ℕ → Bool
same_edition old new = eqb (edition_of old) (edition_of new)

-- draw i is changed: the scenes' editions differ, or its 2,032 bytes do, or only one scene has it
unfoldable pub changed_at : List ℕ → List ℕ → ℕ → Bool
changed_at old new i = cond (has old i) (cond (has new i) (not (same_edition old new && same_draw (draw_of old i) (draw_of new i))) true) (has new i)

-- the box of draw i on a surface of w by h pixels
unfoldable pub draw_box : ℕ → ℕ → ℕ → List ℕ → Rect
draw_box w h edition d = box_of w h (draw_edges edition d)

unfoldable pub box_at : ℕ → ℕ → List ℕ → ℕ → Rect
box_at w h s i = cond (has s i) (draw_box w h (edition_of s) (draw_of s i)) none

-- the boxes, old and new, of draw i, if it is changed
abbrev pub boxes_at : ℕ → ℕ → List ℕ → List ℕ → ℕ → List Rect
boxes_at w h old new i = cond (changed_at old new i) (box_at w h old i ∷ box_at w h new i ∷ []) []

abbrev pub changed_boxes : ℕ → ℕ → List ℕ → List ℕ → List Rect
changed_boxes w h old new = upto (max (count_of old) (count_of new)) (boxes_at w h old new)

-- the background's four bytes are the same
abbrev pub same_bytes : Pixel → Pixel → Bool
same_bytes p q = eqb p.r q.r && (eqb p.g q.g && (eqb p.b q.b && eqb p.a q.a))

unfoldable pub same_background : List ℕ → List ℕ → Bool
same_background old new = same_bytes (background_of old) (background_of new)

-- the whole surface if the background differs
unfoldable pub damage_of : ℕ → ℕ → List ℕ → List ℕ → Rect
damage_of w h old new = cond (same_background old new) (smallest (changed_boxes w h old new)) (whole w h)

-- on the new scene's surface
abbrev pub damage : List ℕ → List ℕ → Rect
damage old new = damage_of (width_of new) (height_of new) old new
