-- `TintedGradient::pixel` meets its contract: the first pixel of a row of one, transformed.
use mathlib.Core.List.{List}
use mathlib.Core.Path.{◌≡◌, ap, ◌∙◌}
use Prim.Native.Nat.{ℕ, ◌+◌}
use native.Mathlib.Nat.{add-zero}
use native.Mathlib.Omega.{arith}
use Rattle.color.specs.declared.Pixel.{Pixel}
use Rattle.raster.specs.Surface.{pixel_in}
use Rattle.raster.proofs.Pixels.{run_at}
use Rattle.paint.specs.Circles.{gradient_at}
use Rattle.engine.specs.Rows.{tinted_by}
use Rattle.engine.proofs.TintedGradient.pixel.Goals as goal

pub returns : goal.returns
returns c =
    let a = c.args in
    let f : ℕ → Pixel = λ i. gradient_at a.self.gradient a.ramp.now (a.x + i) a.y in
    let e : a.x + 0 ≡ a.x = add-zero a.x in
    c.tinted.ensures
    ∙ ap (tinted_by a.self.tint)
    (c.pixel.ensures ∙ ap (λ (s : List ℕ). pixel_in s 0) c.gradient_row.ensures ∙ run_at 1 f 0 (omega arith)
    ∙ ap (λ (x : ℕ). gradient_at a.self.gradient a.ramp.now x a.y) e)
