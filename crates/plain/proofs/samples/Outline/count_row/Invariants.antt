-- `plain::samples::Outline::count_row` meets its contract. Assumes nothing.
use mathlib.Core.Path.{◌≡◌}
use Prim.Native.Nat.{◌+◌, ◌-◌, ◌*◌, ◌≤◌}
use Rattle.lists.specs.Lists.{total}
use Rattle.path.specs.Stored.{edges_of}
use Rattle.coverage.specs.Winding.{winding, inside_by, one_if, sample}
use Rattle.plain.proofs.samples.Outline.count_row.Given as goal

-- `plain::samples::Outline::count_row` meets its contract. Assumes nothing.
abbrev pub invariant-loop-m : goal.invariant-loop-m
invariant-loop-m l =
    (l.m ≤ 4) × (l.k ≤ l.m) × (l.k ≡ total l.m
    (λ i. one_if (inside_by l.self.nonzero (winding (edges_of l.self.scratch.now l.self.edges) (sample (4 * l.x + i)) (sample l.j)))))
