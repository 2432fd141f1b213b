-- `plain::samples::Outline::count_pixel` meets its contract. Assumes nothing.
use mathlib.Core.Path.{◌≡◌}
use Prim.Native.Nat.{◌+◌, ◌-◌, ◌*◌, ◌≤◌}
use Rattle.lists.specs.Lists.{total}
use Rattle.path.specs.Stored.{edges_of}
use Rattle.coverage.specs.Winding.{winding, sample, tally}
use Rattle.plain.proofs.samples.Outline.count_pixel.Given as goal

-- `plain::samples::Outline::count_pixel` meets its contract. Assumes nothing.
abbrev pub invariant-loop-m : goal.invariant-loop-m
invariant-loop-m l =
    (l.m ≤ 4) × (l.k ≤ l.m * 4) × (l.k ≡ total l.m
    (λ r. tally l.self.nonzero (λ j. winding (edges_of l.self.scratch.now l.self.edges) (sample j) (sample (4 * l.y + r))) l.x))
