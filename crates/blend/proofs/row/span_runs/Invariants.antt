-- `blend::span_runs` meets its contract: the runs before j are stored, and the other pixels are as they were. Assumes nothing.
use mathlib.Core.Path.{◌≡◌}
use lib.ListN.{get_or}
use Rattle.runs.specs.Runs.{start_of, expand}
use Rattle.raster.specs.Surface.{pixel_in}
use Rattle.raster.specs.Rows.{Stored}
use Rattle.blend.specs.Unmasked.{unmasked_on}
use Rattle.blend.proofs.row.span_runs.Given as goal

-- `blend::span_runs` meets its contract: the runs before j are stored, and the other pixels are as they were. Assumes nothing.
abbrev pub invariant-loop-j : goal.invariant-loop-j
invariant-loop-j l =
    (l.a ≡ start_of l.runs l.j) × Stored (λ i. unmasked_on l.mode (get_or (expand l.runs l.n) i 0) l.src (pixel_in l.initial.row i))
    l.initial.row l.a l.row
