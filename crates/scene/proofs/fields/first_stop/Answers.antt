-- `scene::fields::first_stop` meets its contract.
use Rattle.scene.specs.Fields.{first_stop_at}
use borrow.Author.Rules.{rules}
use Rattle.scene.proofs.fields.first_stop.Goals as goal

pub returns-then-is_radial : goal.returns-then-is_radial
unfolding first_stop_at
returns-then-is_radial c =
    (rw (← c.is_radial.ensures, c.if-is_radial.true), search rules)

pub returns-else-is_radial : goal.returns-else-is_radial
unfolding first_stop_at
returns-else-is_radial c =
    (rw (← c.is_radial.ensures, c.if-is_radial.false), search rules)
