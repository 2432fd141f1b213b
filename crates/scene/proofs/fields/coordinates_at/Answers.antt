-- `scene::fields::coordinates_at` meets its contract.
use borrow.Author.Tests.{eq-eqb, ne_eqb}
use Rattle.scene.specs.Layout.{new_edition, coordinates_at}
use borrow.Author.Rules.{rules}
use Rattle.scene.proofs.fields.coordinates_at.Goals as goal

pub returns-then-edition-eq-NEW_EDITION : goal.returns-then-edition-eq-NEW_EDITION
unfolding coordinates_at
returns-then-edition-eq-NEW_EDITION c =
    (rw (eq-eqb c.args.edition new_edition c.if-edition-eq-NEW_EDITION.true), search rules)

pub returns-else-edition-eq-NEW_EDITION : goal.returns-else-edition-eq-NEW_EDITION
unfolding coordinates_at
returns-else-edition-eq-NEW_EDITION c =
    (rw (ne_eqb c.args.edition new_edition c.if-edition-eq-NEW_EDITION.false), search rules)
