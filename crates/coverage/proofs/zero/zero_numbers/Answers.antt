-- `coverage::zero::zero_numbers` meets its contract. Assumes nothing.
use mathlib.Core.Path.{◌∙◌}
use lib.ListN.{length}
use lib.IntN.{pos}
use Rattle.coverage.proofs.Zeros.{filled}
use Rattle.coverage.proofs.zero.zero_numbers.Goals as goal

pub returns : goal.returns
returns c =
    c.fill.ensures.after (λ y e. e) ∙ filled (length c.args.s.now) (pos 0)
