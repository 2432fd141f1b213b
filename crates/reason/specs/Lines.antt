-- What the functions behind `explain_draw` promise. A reviewer of the paper need not read it.
use Rattle.std.specs.Prelude.{ℕ, ◌+◌, ◌*◌, ◌≡◌, List, cond, get_or}
use Rattle.color.specs.declared.Pixel.{Pixel}
use Rattle.blend.specs.PorterDuff.{composite}
use Rattle.coverage.specs.Winding.{one_if}
use Rattle.scene.specs.Blocks.{draw_of}
use Rattle.scene.specs.Header.{width_of, edition_of}
use Rattle.scene.specs.Fields.{blend_of, uses_mask}
use Rattle.engine.specs.Picture.{draw_mask, draw_paint}
use Rattle.reason.specs.declared.Line.{Line}
use Rattle.reason.specs.Explanations.{covered, line_of}

-- the line of a draw under every mask that gives it m there
abbrev pub LineWith : ℕ → List ℕ → ℕ → ℕ → ℕ → Pixel → Line → Type 0
LineWith edition d m x y p r = (f : ℕ → ℕ → ℕ) → m ≡ draw_mask d f x y → r ≡ line_of edition d f x y p

-- m by the byte of a mask at a place
abbrev pub byte_for : List ℕ → List ℕ → ℕ → ℕ
byte_for d mask at = cond (uses_mask d) (get_or mask at 0) 255

abbrev pub SceneLine : List ℕ → List ℕ → ℕ → ℕ → ℕ → Pixel → Line → Type 0
SceneLine s mask x y i p = LineWith (edition_of s) (draw_of s i) (byte_for (draw_of s i) mask (y * width_of s + x)) x y p

-- the line of a draw that covers k samples, with its m
abbrev pub line_by : List ℕ → ℕ → ℕ → ℕ → ℕ → Pixel → Line
line_by d k m x y p = record {
  kind = covered;
  before = p;
  after = composite (blend_of d) k m (draw_paint d x y) p;
  k = k;
  masked = one_if (uses_mask d);
  mask = m;
  paint = draw_paint d x y;
}
