use mathlib.Core.Path.{ap, ◌∙◌}
use Rattle.rescue.specs.Fresh.{fresh_draw}
use Rattle.rescue.proofs.Empty.{empty_stored}
use Rattle.rescue.proofs.fresh.put_empty.Goals as goal

pub returns : goal.returns
returns c =
    c.put_draw.ensures ∙ ap (fresh_draw c.args.i) empty_stored
