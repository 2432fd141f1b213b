-- `plain::pixels::LaidDraw::step` meets its contract: k, the paint and the blending step.
use mathlib.Core.Path.{◌≡◌, ap, ap₂, ◌∙◌}
use Prim.Native.Nat.{ℕ, ◌≤◌}
use native.Mathlib.Omega.{arith}
use Rattle.color.specs.declared.Pixel.{Pixel}
use Rattle.blend.specs.PorterDuff.{composite}
use Rattle.path.specs.Stored.{edges_of}
use Rattle.engine.specs.Rows.{scissored_by, coverage_with}
use Rattle.engine.proofs.RowLaws.{cut_at_most}
use Rattle.plain.specs.Asked.{step_at}
use Rattle.plain.proofs.pixels.LaidDraw.step.Goals as goal

pub overflow_cast-k : goal.overflow_cast-k
overflow_cast-k c =
    let a = c.args in
    let n = c.count_pixel-covered in
    let k = c.scissor_pixel-k in
    record { fits = omega (arith, k.ensures, cut_at_most a.self.now.brush.style.scissors a.self.now.brush.scissors.now a.x a.y n.result, n.ensures.1) }

pub composite_pixel-requires : goal.composite_pixel-requires
composite_pixel-requires c =
    let a = c.args in
    let n = c.count_pixel-covered in
    let k = c.scissor_pixel-k in
    omega (arith, k.ensures, cut_at_most a.self.now.brush.style.scissors a.self.now.brush.scissors.now a.x a.y n.result, n.ensures.1)

pub returns : goal.returns
unfolding step_at coverage_with
returns c =
    let a = c.args in
    c.composite_pixel.ensures
    ∙ ap₂ (λ (k : ℕ) (q : Pixel). composite a.self.now.brush.style.mode k a.m q a.p)
    (c.scissor_pixel-k.ensures ∙ ap
    (scissored_by a.self.now.brush.style.scissors a.self.now.brush.scissors.now a.x a.y) c.count_pixel-covered.ensures.0) c.paint-paint.ensures
