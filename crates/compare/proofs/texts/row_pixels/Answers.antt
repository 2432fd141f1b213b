use Rattle.std.proofs.lemmas.Bool.Decides.{Decides-eqb}
use Rattle.std.proofs.lemmas.Slice.Eq.{slice_eq-Decides}
use Rattle.compare.proofs.Back.{row_read}
use Rattle.compare.proofs.texts.row_pixels.Goals as goal

pub returns : goal.returns
returns c = row_read _ _ _ _ c.eq.result c.decode.ensures c.row.ensures (slice_eq-Decides Decides-eqb _ _ _ c.eq.ensures)
