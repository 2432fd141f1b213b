-- Draws in another order: the draws' boxes, rearrangements that keep the order of draws whose boxes share a pixel, and the scene that a
-- rearrangement makes (paper 02, P12).
use Rattle.std.specs.Prelude.{ℕ, suc, ◌<◌, ◌≡◌, cond, List, eqb, take}
use Rattle.rect.specs.declared.Rect.{Rect}
use Rattle.rect.specs.Rects.{Inside}
use Rattle.scene.specs.Layout.{block_bytes}
use Rattle.scene.specs.Blocks.{draw_of}
use Rattle.scene.specs.Header.{width_of, height_of, count_of, edition_of}
use Rattle.damage.specs.Damage.{draw_box}
use Rattle.rescue.specs.Fresh.{assembled}

-- the box of draw i of a scene, on the scene's own surface
abbrev pub box_in : List ℕ → ℕ → Rect
box_in s i = draw_box (width_of s) (height_of s) (edition_of s) (draw_of s i)

-- no pixel is in the boxes of both draws
abbrev pub Apart : List ℕ → ℕ → ℕ → Type 0
Apart s i j = (x y : ℕ) → Inside (box_in s i) x y → Inside (box_in s j) x y → ⊥

-- a rearrangement of n draws: draw i goes to place `to i`, and place j takes draw `from j`
pub record Rearrangement (n : ℕ) (to from : ℕ → ℕ) : Type 0 where
  pub places : (i : ℕ) → i < n → to i < n
  pub draws : (j : ℕ) → j < n → from j < n
  pub there : (j : ℕ) → j < n → to (from j) ≡ j
  pub back : (i : ℕ) → i < n → from (to i) ≡ i

-- it keeps the order of every two draws whose boxes share a pixel
abbrev pub KeepsOrder : List ℕ → (ℕ → ℕ) → Type 0
KeepsOrder s to = (i j x y : ℕ) → i < j → j < count_of s → Inside (box_in s i) x y → Inside (box_in s j) x y → to i < to j

-- the exchange of the draws i and i + 1
unfoldable pub swapped : ℕ → ℕ → ℕ
swapped i j = cond (eqb j i) (suc i) (cond (eqb j (suc i)) i j)

-- t is s with its draws rearranged: block 0 is the same in each byte, and place j has the bytes of draw `from j`
pub record Rearranges (s t : List ℕ) (from : ℕ → ℕ) : Type 0 where
  pub header : take block_bytes t ≡ take block_bytes s
  pub draws : (j : ℕ) → j < count_of s → draw_of t j ≡ draw_of s (from j)

-- the scene that is made of s so, with fresh checks
abbrev pub rearranged : List ℕ → (ℕ → ℕ) → List ℕ
rearranged s from = assembled s (λ j. draw_of s (from j))

-- with the draws i and i + 1 exchanged
abbrev pub exchanged : List ℕ → ℕ → List ℕ
exchanged s i = rearranged s (swapped i)
