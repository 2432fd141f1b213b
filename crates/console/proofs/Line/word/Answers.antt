use mathlib.Core.Path.{ap, ◌∙◌}
use Rattle.console.specs.Lines.{with_bytes}
use Rattle.console.proofs.Line.word.Goals as goal

pub returns : goal.returns
returns c =
    c.put_all.ensures ∙ ap (λ l. with_bytes l c.args.s.now) c.space.ensures
