-- `outline::curve::weights` meets its contract.
use mathlib.Core.Path.{◌∙◌}
use native.Mathlib.Omega.{arith}
use Rattle.outline.proofs.Bezier.{quad, cubic, quad_weights_lem, cubic_weights_lem, weights_told}
use Rattle.outline.proofs.curve.weights.Goals as goal

pub returns-then-degree-eq2 : goal.returns-then-degree-eq2
returns-then-degree-eq2 c =
    weights_told c.args.k c.requires.1 quad c.if-degree-eq2.true (c.quad_weights.ensures ∙ quad_weights_lem c.args.k c.requires.1)

pub returns-else-degree-eq2 : goal.returns-else-degree-eq2
returns-else-degree-eq2 c =
    weights_told c.args.k c.requires.1 cubic (omega arith) (c.cubic_weights.ensures ∙ cubic_weights_lem c.args.k c.requires.1)
