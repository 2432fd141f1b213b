-- `block::line_block` meets its contract.
use Rattle.std.proofs.Common.{ℕ, ◌+◌, ◌/◌, length, ℤ, ap, ◌∙◌, ap₂, arith, w64}
use Rattle.fixed.proofs.Signed.{clean}
use Rattle.color.specs.declared.Pixel.{Pixel}
use Rattle.raster.proofs.Runs.{run_same}
use Rattle.paint.specs.Gradient.{linear_t, mapped}
use Rattle.paint.specs.Buffers.{stops_in}
use Rattle.paint.specs.Segments.{finished, position_of, two_stops}
use Rattle.paint.proofs.Placing.{position_small, painted}
use Rattle.paint.proofs.Serving.{two_colors}
use Rattle.paint.proofs.block.line_block.Goals as goal

pub stop_color-requires : goal.stop_color-requires
stop_color-requires c =
    omega (arith, c.requires.held_ramp.0.places)

pub stop_color-requires-2 : goal.stop_color-requires-2
stop_color-requires-2 c =
    omega (arith, c.requires.held_ramp.0.places)

pub line_pixels-requires : goal.line_pixels-requires
line_pixels-requires c =
    let f = c.requires.held_ramp.2 in
    record {
      first_bound = rw (clean w64 2305843009213693952 _ tt f.small, clean w64 18014398509481984 _ tt f.slow) (f.small, f.slow);
      row_len = c.requires.row_len;
    }

pub returns : goal.returns
returns c =
    let second = c.stop_color-2 in
    let first = c.stop_color in
    let a = c.args in
    let f = c.requires.held_ramp.2 in
    let t : ℕ → ℤ = λ i. linear_t a.g.points (a.x + i) a.y in
    let u : ℕ → ℤ = λ i. mapped a.g.spread (t i) in
    (rw (clean w64 2305843009213693952 a.l.first tt f.small, clean w64 18014398509481984 a.l.step tt f.slow)
    at c.line_pixels.ensures)
    ∙ run_same (length a.row.now / 4) _ _
    (λ i h. ap (λ (v : ℤ). finished a.g.premultiply (two_stops first.result second.result (position_of v))) (f.same i h)
    ∙ painted a.g.spread a.g.premultiply (stops_in a.ramp.now 2) (t i) _
    (ap₂ (λ (p q : Pixel). two_stops p q (position_of (u i))) first.ensures second.ensures
    ∙ two_colors a.ramp.now c.requires.held_ramp.0 c.requires.held_ramp.1 (position_of (u i)) (position_small (u i))))
