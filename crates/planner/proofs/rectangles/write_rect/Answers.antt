use Prim.Native.Nat.{◌-◌}
use native.Mathlib.Omega.{arith}
use mir.Syntax.{w32}
use Rattle.fixed.proofs.Means.{of_nat}
use Rattle.planner.specs.Runs.{put_four}
use Rattle.planner.proofs.rectangles.write_rect.Goals as goal

pub returns : goal.returns
unfolding put_four
returns c =
    let a = c.args.a in
    let on = c.requires.0 in
    rw (
      (of_nat w32 a.x0 1024 (omega (arith, on.across, on.wide)) tt).same,
      (of_nat w32 a.y0 1024 (omega (arith, on.up, on.high)) tt).same,
      (of_nat w32 (a.x1 - a.x0) 1024 (omega (arith, on.wide)) tt).same,
      (of_nat w32 (a.y1 - a.y0) 1024 (omega (arith, on.high)) tt).same,
    )
