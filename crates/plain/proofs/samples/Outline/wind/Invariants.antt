-- `plain::samples::Outline::wind` meets its contract. Assumes nothing.
use mathlib.Core.Path.{◌≡◌}
use Prim.Native.Nat.{◌-◌, ◌≤◌}
use Rattle.path.specs.Stored.{edges_of}
use Rattle.coverage.specs.Winding.{winding}
use Rattle.plain.proofs.samples.Outline.wind.Given as goal

-- `plain::samples::Outline::wind` meets its contract. Assumes nothing.
abbrev pub invariant-loop-i : goal.invariant-loop-i
invariant-loop-i l = (l.i ≤ l.self.edges) × (l.sum ≡ winding (edges_of l.self.scratch.now l.i) l.x l.y)
