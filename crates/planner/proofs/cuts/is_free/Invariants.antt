use mathlib.Core.Path.{◌≡◌}
use mathlib.Core.Bool.{true}
use Rattle.planner.specs.Runs.{rect_at}
use Rattle.planner.specs.Cuts.{free}
use Rattle.planner.proofs.cuts.is_free.Given as goal

abbrev pub invariant-loop-b : goal.invariant-loop-b
invariant-loop-b l = free l.upright l.b-index (rect_at l.boxes) l.at ≡ true
