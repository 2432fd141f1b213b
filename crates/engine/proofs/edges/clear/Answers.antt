use mathlib.Core.Path.{sym, ◌∙◌}
use lib.ListN.{length}
use Rattle.engine.proofs.Scratch.{zeros_table}
use Rattle.engine.proofs.edges.clear.Goals as goal

pub returns : goal.returns
returns c =
    c.zero_numbers.ensures ∙ sym (zeros_table (length c.args.s.now))
