-- `coverage::band::filter_edges` meets its contract. Assumes nothing.
use mathlib.Core.Path.{◌≡◌}
use Prim.Native.Nat.{◌≤◌}
use lib.ListN.{length, take}
use Rattle.coverage.specs.Band.{listed}
use Rattle.coverage.proofs.band.filter_edges.Given as goal

-- `coverage::band::filter_edges` meets its contract. Assumes nothing.
abbrev pub invariant-loop-i : goal.invariant-loop-i
invariant-loop-i l = (l.k ≤ l.i) × (length l.list ≡ length l.initial.list) × (take l.k l.list ≡ listed l.scratch l.from l.end l.i)
