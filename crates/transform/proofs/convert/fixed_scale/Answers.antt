-- `transform::convert::fixed_scale` meets its contract.
use mathlib.Core.Path.{ap, ◌∙◌}
use lib.Ieee.{of_bits}
use mir.Syntax.{w32}
use Rattle.fixed.specs.Floats.{scaled}
use Rattle.fixed.proofs.Signed.{back}
use Rattle.transform.specs.Transforms.{fixed_scale}
use Rattle.transform.proofs.Limits.{cut_within}
use Rattle.transform.proofs.convert.fixed_scale.Goals as goal

pub in_256ths-requires : goal.in_256ths-requires
unfolding of_bits
in_256ths-requires c =
    rw c.cut.ensures (cut_within 127 c.args.v)

pub returns : goal.returns
unfolding of_bits fixed_scale
returns c =
    back w32 c.in_256ths.result c.in_256ths.type_inv ∙ c.in_256ths.ensures ∙ ap (scaled 256) c.cut.ensures
