-- `transform::convert::fixed_bias` meets its contract.
use mathlib.Core.Path.{ap, ◌∙◌}
use lib.Dec.{lit≤}
use lib.Ieee.{of_bits}
use mir.Syntax.{w32}
use Rattle.fixed.specs.Floats.{scaled}
use Rattle.fixed.proofs.Scaled.{limit_raised}
use Rattle.fixed.proofs.Signed.{back}
use Rattle.transform.specs.Transforms.{fixed_bias, bias_limit, cut}
use Rattle.transform.proofs.Limits.{cut_within}
use Rattle.transform.proofs.convert.fixed_bias.Goals as goal

pub in_256ths-requires : goal.in_256ths-requires
unfolding of_bits
in_256ths-requires c =
    let v = c.args.v in rw c.cut.ensures (limit_raised 1 127 (cut bias_limit v) (lit≤ tt) (cut_within 1 v))

pub returns : goal.returns
unfolding of_bits fixed_bias
returns c =
    back w32 c.in_256ths.result c.in_256ths.type_inv ∙ c.in_256ths.ensures ∙ ap (scaled 256) c.cut.ensures
