-- `coverage::covers::covers` meets its contract: what is found is the sum over the edges before i. Assumes nothing.
use mathlib.Core.Path.{◌≡◌}
use Prim.Native.Nat.{◌*◌, ◌≤◌}
use Rattle.lists.specs.Lists.{total}
use Rattle.path.specs.Stored.{edge_at}
use Rattle.coverage.specs.Covers.{part_of}
use Rattle.coverage.proofs.covers.covers.Given as goal

-- `coverage::covers::covers` meets its contract: what is found is the sum over the edges before i. Assumes nothing.
abbrev pub invariant-loop-i : goal.invariant-loop-i
invariant-loop-i l = (l.found ≤ l.i * 2) × (l.found ≡ total l.i (λ k. part_of l.a (edge_at l.scratch k)))
