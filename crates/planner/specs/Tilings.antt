-- For the planner's own functions; a reviewer of the paper need not read it.
-- Rectangles planned for m boxes.
use Rattle.std.specs.Prelude.{ℕ, ◌+◌, ◌≤◌, ◌<◌, ◌≡◌, Bool, true, false, Option, None, IfSome}
use Rattle.rect.specs.declared.Rect.{Rect}
use Rattle.rect.specs.Rects.{Inside, Holds}
use Rattle.planner.specs.declared.cuts.Cut.{Cut}
use Rattle.regions.specs.Planned.{along, past}
use Rattle.planner.specs.Cuts.{opens}

-- n rectangles of the area: each has a pixel, no two share one, and each pixel of each of m boxes is in one of them
pub record Tiling (m : ℕ) (boxes : ℕ → Rect) (area : Rect) (n : ℕ) (rs : ℕ → Rect) : Type 0 where
  pub some : 1 ≤ n
  pub few : n ≤ 4
  pub lying : (k : ℕ) → k < n → Holds area (rs k)
  pub wide : (k : ℕ) → k < n → (rs k).x0 < (rs k).x1
  pub tall : (k : ℕ) → k < n → (rs k).y0 < (rs k).y1
  pub alone : (i j x y : ℕ) → i < n → j < n → Inside (rs i) x y → Inside (rs j) x y → i ≡ j
  pub covering : (k x y : ℕ) → k < m → Inside (boxes k) x y → (i : ℕ) × ((i < n) × Inside (rs i) x y)

-- none of n rectangles touches the line
abbrev pub Spared : ℕ → (ℕ → Rect) → Bool → ℕ → Type 0
Spared n rs upright c = (k x y : ℕ) → k < n → along upright x y ≡ c → Inside (rs k) x y → ⊥

-- where a line of the area is free, there are two rectangles or more, and one such line is left untouched
abbrev pub SparesOne : ℕ → (ℕ → Rect) → Rect → ℕ → (ℕ → Rect) → Type 0
SparesOne m boxes area n rs =
    (upright : Bool) (c : ℕ) → opens m boxes area upright c ≡ true
    → (2 ≤ n) × ((other : Bool) × ((d : ℕ) × ((opens m boxes area other d ≡ true) × Spared n rs other d)))

pub record Divided (m : ℕ) (boxes : ℕ → Rect) (area : Rect) (n : ℕ) (rs : ℕ → Rect) : Type 0 where
  pub tiling : Tiling m boxes area n rs
  pub sparing : SparesOne m boxes area n rs

-- n rectangles of a tiling cut into more
pub record Refined (m : ℕ) (boxes : ℕ → Rect) (n : ℕ) (rs : ℕ → Rect) (more : ℕ) (ts : ℕ → Rect) : Type 0 where
  pub grown : n ≤ more
  pub tiling : (area : Rect) → Tiling m boxes area n rs → Tiling m boxes area more ts
  pub spared : (upright : Bool) (c : ℕ) → Spared n rs upright c → Spared more ts upright c

-- what the search of the first k boxes' ends for a free line of the area finds
pub record Searched (m : ℕ) (boxes : ℕ → Rect) (area : Rect) (upright : Bool) (k : ℕ) (r : Option Cut) : Type 0 where
  pub yes : IfSome r (λ c. (c.upright ≡ upright) × (opens m boxes area upright c.at ≡ true))
  pub no : r ≡ None → (i : ℕ) → i < k → opens m boxes area upright (past upright (boxes i)) ≡ false

-- one more end, at
abbrev pub Tried : ℕ → (ℕ → Rect) → Rect → Bool → ℕ → Option Cut → Option Cut → Type 0
Tried m boxes area upright at best r =
    (k : ℕ) → at ≡ past upright (boxes k) → Searched m boxes area upright k best → Searched m boxes area upright (k + 1) r

-- a free line of the area, or the word that there is none
pub record Opening (m : ℕ) (boxes : ℕ → Rect) (area : Rect) (r : Option Cut) : Type 0 where
  pub yes : IfSome r (λ c. opens m boxes area c.upright c.at ≡ true)
  pub no : r ≡ None → (upright : Bool) (c : ℕ) → opens m boxes area upright c ≡ true → ⊥
