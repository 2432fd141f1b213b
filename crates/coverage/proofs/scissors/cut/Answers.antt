-- `coverage::scissors::cut` meets its contract. Assumes nothing.
use mathlib.Core.Path.{◌∙◌}
use lib.ListN.{length}
use Rattle.coverage.proofs.Zeros.{filled}
use Rattle.coverage.proofs.Borders.{cut_away, cut_nothing}
use borrow.Author.Tests.{not-true, not-false}
use Rattle.coverage.proofs.scissors.cut.Goals as goal

pub returns-then-not-keep : goal.returns-then-not-keep
returns-then-not-keep c =
    let a = c.args in
    cut_away a.part.now a.keep _ (not-true a.keep c.if-not-keep.true-raw) (c.fill.ensures.after (λ y e. e) ∙ filled (length a.part.now) 0)

pub returns-else-not-keep : goal.returns-else-not-keep
returns-else-not-keep c =
    let a = c.args in
    cut_nothing a.part.now a.keep (not-false a.keep c.if-not-keep.false-raw)
