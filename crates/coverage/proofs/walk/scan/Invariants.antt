-- `coverage::walk::scan` meets its contract. Assumes nothing.
use Rattle.coverage.specs.Marks.{Blank}
use Rattle.coverage.proofs.walk.scan.Given as goal

-- `coverage::walk::scan` meets its contract. Assumes nothing.
abbrev pub invariant-loop-e : goal.invariant-loop-e
invariant-loop-e l = Blank l.marks l.p l.e
