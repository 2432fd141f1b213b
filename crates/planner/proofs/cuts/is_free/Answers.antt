use mathlib.Core.Path.{sym, ◌∙◌}
use native.Mathlib.Omega.{arith}
use lib.ListN.{length}
use Rattle.planner.specs.Runs.{rect_at}
use Rattle.planner.proofs.Lines.{free_no}
use Rattle.planner.proofs.cuts.is_free.Goals as goal

pub returns-then-has_line : goal.returns-then-has_line
returns-then-has_line c =
    let a = c.args in
    sym (free_no a.upright (rect_at a.boxes.now) a.at (length a.boxes.now) c.loop-b.b-index (omega arith) (sym c.has_line.ensures ∙ c.if-has_line.true))
