-- `coverage::walk::take_runs` meets its contract. Assumes nothing.
use mathlib.Core.Path.{◌≡◌}
use Prim.Native.Nat.{◌-◌, ◌≤◌}
use lib.ListN.{length}
use Rattle.coverage.specs.Scanline.{pixel_of}
use Rattle.coverage.proofs.Walked.{Walked, Longer}
use Rattle.coverage.proofs.walk.take_runs.Given as goal

-- `coverage::walk::take_runs` meets its contract. Assumes nothing.
abbrev pub invariant-loop-e : goal.invariant-loop-e
invariant-loop-e l =
    (l.e ≤ length l.marks)
    × (length l.sums ≡ length l.initial.sums)
    × (length l.runs ≡ length l.initial.runs)
    × Walked l.nonzero l.initial.sums l.from l.e l.z l.sums l.runs l.m
    × Longer (pixel_of l.nonzero l.initial.sums) l.initial.runs l.initial.m l.initial.e l.runs l.m l.e

abbrev pub decreases-loop-e : goal.decreases-loop-e
decreases-loop-e l = length l.marks - l.e
