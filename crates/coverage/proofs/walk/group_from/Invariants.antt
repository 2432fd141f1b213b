-- `coverage::walk::group_from` meets its contract. Assumes nothing.
use Prim.Native.Nat.{◌-◌, ◌*◌, ◌≤◌, min}
use lib.ListN.{length}
use Rattle.coverage.specs.Marks.{Blank}
use Rattle.coverage.proofs.walk.group_from.Given as goal

-- `coverage::walk::group_from` meets its contract. Assumes nothing.
abbrev pub invariant-loop-h : goal.invariant-loop-h
invariant-loop-h l = (l.h ≤ 16) × Blank l.marks (min (l.g * 64) (length l.marks)) (min (l.h * 64) (length l.marks))

abbrev pub decreases-loop-h : goal.decreases-loop-h
decreases-loop-h l = 16 - l.h
