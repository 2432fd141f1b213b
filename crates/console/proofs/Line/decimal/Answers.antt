use mathlib.Core.Path.{ap, ◌∙◌}
use Rattle.console.specs.Lines.{with_word}
use Rattle.console.proofs.Line.decimal.Goals as goal

pub returns : goal.returns
returns c =
    let d = c.decimal-k in
    (d.result, d.ensures.len, c.word.ensures ∙ ap (with_word c.args.self) d.ensures.digits)
