-- `spans::GradientRow::blend_level` meets its contract: the first pixel's paint, blended along the row.
use mathlib.Core.Path.{subst}
use native.Mathlib.Omega.{arith}
use Rattle.paint.specs.declared.AnyGradient.{AnyGradient}
use Rattle.paint.specs.Circles.{HeldGradient}
use Rattle.engine.specs.Rows.{levels}
use Rattle.engine.proofs.Levels.{level_row}
use Rattle.engine.proofs.spans.GradientRow.blend_level.Goals as goal

pub linear_pixel-requires : goal.linear_pixel-requires
linear_pixel-requires c =
    let s = c.args.self.now in
    let on = s.strip.on_surface in
    record {
      limited_points = subst (λ (z : AnyGradient). HeldGradient z s.ramp.now) c.requires.linear.0 s.held;
      x_bound = (omega (arith, on.1), omega (arith, on.0));
    }

pub composite_runs-requires : goal.composite_runs-requires
composite_runs-requires c =
    let s = c.args.self.now in
    record { runs = (s.covered.0, omega arith, c.requires.row_len); coverage = s.covered.1 }

pub returns : goal.returns
returns c =
    let s = c.args.self.now in
    let call = c.composite_runs in
    rw c.requires.linear.0
    (level_row s.mode s.strip.x s.strip.y (levels s.runs.now) c.args.row.now call.new.row s.ramp.now c.args.l s.paint.tint
    c.linear_pixel.result c.tinted-p.result c.requires.linear.1 c.linear_pixel.ensures c.tinted-p.ensures call.ensures)
