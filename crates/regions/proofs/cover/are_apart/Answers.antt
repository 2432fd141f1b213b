use mathlib.Core.Path.{ap, ◌∙◌}
use Rattle.rect.specs.Rects.{empty_of}
use Rattle.regions.proofs.Every.{apart_is}
use Rattle.regions.proofs.cover.are_apart.Goals as goal

pub returns : goal.returns
returns c =
    c.is_empty.ensures ∙ ap empty_of c.meet.ensures ∙ apart_is _ _
