-- A linear gradient straight up or down, of one colour along a row: its first pixel is all of its paint.
use mathlib.Core.Path.{◌≡◌, ap, ◌∙◌}
use mathlib.Core.List.{List}
use Prim.Native.Nat.{ℕ, ◌+◌}
use lib.ListN.{length, get_or}
use Rattle.color.specs.declared.Pixel.{Pixel}
use Rattle.raster.specs.Surface.{pixel_in}
use Rattle.raster.proofs.Runs.{run_same}
use Rattle.blend.specs.PorterDuff.{composite_on}
use Rattle.blend.specs.Rows.{composite_row}
use Rattle.paint.specs.declared.LinearGradient.{LinearGradient}
use Rattle.paint.specs.Paints.{gradient_color}
use Rattle.paint.specs.Buffers.{stops_in, linear_at}
use Rattle.paint.proofs.Slope.{one_t}
use Rattle.std.specs.Prelude.{Option}
use Rattle.transform.specs.declared.FixedTransform.{FixedTransform}
use Rattle.engine.specs.Rows.{tinted_by}

-- the pixel q at x, tinted, is the paint p of each
pub level_row : (mode x y : ℕ) (ks row r ramp : List ℕ) (l : LinearGradient) (tint : Option FixedTransform) (q p : Pixel) → l.points.x0 ≡ l.points.x1
    → q ≡ linear_at l (stops_in ramp l.count) x y → p ≡ tinted_by tint q → r ≡ composite_row mode ks (λ i. 255) (λ i. p) row
    → r ≡ composite_row mode ks (λ i. 255) (λ i. tinted_by tint (linear_at l (stops_in ramp l.count) (x + i) y)) row
level_row mode x y ks row r ramp l tint q p e made o u =
    let same : (i : ℕ) → q ≡ linear_at l (stops_in ramp l.count) (x + i) y = λ i.
    made ∙ ap (gradient_color l.spread l.premultiply (stops_in ramp l.count)) (one_t l.points e x (x + i) y) in
    u ∙ run_same (length ks) _ _ (λ i k. ap (λ (z : Pixel). composite_on mode (get_or ks i 0) 255 z (pixel_in row i)) (o ∙ ap (tinted_by tint) (same i)))
