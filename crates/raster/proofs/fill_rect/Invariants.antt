-- `raster::fill_rect` meets its contract: the rows below y are filled.
use Rattle.raster.specs.Rows.{Rows}
use Rattle.raster.proofs.fill_rect.Given as goal

abbrev pub invariant-loop-y : goal.invariant-loop-y
invariant-loop-y l = Rows l.t (λ u v q. l.p) l.initial.s l.y l.s
