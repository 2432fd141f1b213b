-- `words::mix_with_alpha` meets its contract.
use Rattle.std.proofs.Common.{ℕ, length, get_or, ap, ◌∙◌}
use Rattle.lists.specs.Lists.{tab}
use Rattle.paint.specs.Segments.{mix_pair}
use Rattle.paint.proofs.words.mix_with_alpha.Goals as goal

pub returns-then-ai-aj : goal.returns-then-ai-aj
returns-then-ai-aj c =
    let a = c.args in
    let ts = a.ts.now in
    c.mix_under_alpha.ensures
    ∙ ap (λ (alpha : ℕ). tab (length ts) (λ i. mix_pair a.ci a.cj a.ai alpha (get_or ts i 0))) c.if-ai-aj.true
