-- `decode::tint` meets its contract.
use mathlib.Core.Path.{sym, ap, ◌∙◌}
use Rattle.transform.specs.Transforms.{fixed_transform}
use Rattle.engine.proofs.Paints.{tint_on, tint_off}
use Rattle.engine.proofs.decode.tint.Goals as goal

pub returns-then-transforms : goal.returns-then-transforms
returns-then-transforms c =
    tint_on c.args.d.now c.fixed_transform.result (sym c.transforms.ensures ∙ c.if-transforms.true)
    (c.fixed_transform.ensures ∙ ap fixed_transform c.transform.ensures)

pub returns : goal.returns
returns c =
    tint_off c.args.d.now (sym c.transforms.ensures ∙ c.if-transforms.false)
