-- What a planner's proposal for two accepted scenes of one size keeps to (paper 02, P11).
use Rattle.std.specs.Prelude.{ℕ, ◌/◌, ◌≤◌, ◌<◌, ◌≡◌, List, [], Bool, true, false, length, ℤ}
use Rattle.rect.specs.declared.Rect.{Rect}
use Rattle.rect.specs.Rects.{Inside, empty_of}
use Rattle.scene.specs.Header.{width_of, height_of}
use Rattle.damage.specs.Damage.{changed_boxes, same_background, damage}
use Rattle.regions.specs.Pixels.{in_any}
use Rattle.regions.specs.Proposals.{proposed, acceptable}
use Rattle.regions.specs.Answers.{changes}

-- ---- columns, where upright is true, and rows
abbrev pub along : Bool → ℕ → ℕ → ℕ
along true x y = x
along false x y = y

abbrev pub lowest : Bool → Rect → ℕ
lowest true a = a.x0
lowest false a = a.y0

abbrev pub past : Bool → Rect → ℕ
past true a = a.x1
past false a = a.y1

-- a whole column or row of the paper's area that touches no changed draw's box
pub record FreeLine (old new : List ℕ) (upright : Bool) (c : ℕ) : Type 0 where
  pub from : lowest upright (damage old new) ≤ c
  pub to : c < past upright (damage old new)
  pub free : (x y : ℕ) → along upright x y ≡ c → in_any (changed_boxes (width_of new) (height_of new) old new) x y ≡ false

-- one that no rectangle of the proposal touches
pub record LeftLine (old new : List ℕ) (l : List ℤ) : Type 0 where
  pub upright : Bool
  pub at : ℕ
  pub line : FreeLine old new upright at
  pub left : (x y : ℕ) → along upright x y ≡ at → in_any (proposed l) x y ≡ false

pub record Planned (old new : List ℕ) (l : List ℤ) : Type 0 where
  -- accepted, but nothing for an empty area
  pub accepted : empty_of (damage old new) ≡ false → acceptable (width_of new) (height_of new) (changes old new) l ≡ true
  pub nothing : empty_of (damage old new) ≡ true → l ≡ []
  -- in the paper's area
  pub within : (x y : ℕ) → in_any (proposed l) x y ≡ true → Inside (damage old new) x y
  -- at least two where a column or row of the area is free, and such a one left untouched
  pub parted : same_background old new ≡ true → (upright : Bool) (c : ℕ) → FreeLine old new upright c → (2 ≤ length l / 4) × LeftLine old new l
