use mathlib.Core.Path.{refl}
use native.Mathlib.Omega.{arith}
use Rattle.planner.specs.Runs.{rect_at}
use Rattle.planner.proofs.Numbers.{write_none, write_turn}
use Rattle.planner.proofs.rectangles.write.Goals as goal

pub loop-k-init : goal.loop-k-init
loop-k-init c =
    write_none (rect_at c.args.s.now) c.args.out.now

pub loop-k-preserved : goal.loop-k-preserved
loop-k-preserved c =
    let a = c.args in
    let l = c.loop-k in
    write_turn (rect_at a.s.now) l.k l.out a.out.now _ _ refl l.invariant (omega (arith, c.requires.n_in_bounds)) c.write_rect.ensures
