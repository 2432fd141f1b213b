-- `decode::tinted` meets its contract.
use mathlib.Core.Path.{◌∙◌}
use Rattle.engine.specs.Rows.{tinted_by}
use borrow.Author.Rules.{rules}
use Rattle.engine.proofs.decode.tinted.Goals as goal

pub returns-in-None : goal.returns-in-None
unfolding tinted_by
returns-in-None c =
    search rules

pub returns-in-Some : goal.returns-in-Some
unfolding tinted_by
returns-in-Some c =
    c.transform_pixel.ensures ∙ rw c.in-Some.is
