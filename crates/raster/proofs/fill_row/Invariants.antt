-- `raster::fill_row` meets its contract: the pixels before i are stored.
use Rattle.raster.specs.Rows.{Stored}
use Rattle.raster.proofs.fill_row.Given as goal

abbrev pub invariant-loop-i : goal.invariant-loop-i
invariant-loop-i l = Stored (λ k. l.p) l.initial.s l.i l.s
