-- Draws that hide what is under them: where they hide a background it is not filled. A reviewer of the paper need not read it.
use Rattle.std.specs.Prelude.{ℕ, ◌<◌, ◌≡◌, true, List}
use Rattle.color.specs.declared.Pixel.{Pixel}
use Rattle.rect.specs.declared.Rect.{Rect}
use Rattle.rect.specs.Rects.{Inside}
use Rattle.blend.specs.Spans.{hides}
use Rattle.path.specs.declared.Edge.{Edge}
use Rattle.coverage.specs.Winding.{coverage}
use Rattle.scene.specs.Fields.{non_zero_rule}
use Rattle.engine.specs.Unclamped.{unclamped_of}

-- a paint of which every pixel hides, under a mode
abbrev pub HidingPaint : ℕ → (ℕ → ℕ → Pixel) → Type 0
HidingPaint mode paint = (x y : ℕ) → (hides mode (paint x y).a ≡ true) × ((paint x y).a < 256)

-- a draw that leaves nothing of what stood at a pixel, where its path covers all of it
abbrev pub HidesCovered : List ℕ → Type 0
HidesCovered d =
    (es : List Edge) (mask : ℕ → ℕ → ℕ) (x y : ℕ) (p q : Pixel) → coverage es (non_zero_rule d) x y ≡ 16
    → unclamped_of es d mask x y p ≡ unclamped_of es d mask x y q

-- steps that leave nothing of what stood at any pixel of a rectangle, whatever the mask
abbrev pub Hides : Rect → ((ℕ → ℕ → ℕ) → ℕ → ℕ → Pixel → Pixel) → Type 0
Hides a step = (mask : ℕ → ℕ → ℕ) (x y : ℕ) (p q : Pixel) → Inside a x y → step mask x y p ≡ step mask x y q
