use Rattle.std.proofs.Common.{rules}
use Rattle.console.proofs.Texts.{decimal_text}
use Rattle.console.proofs.numbers.text.Goals as goal

pub returns : goal.returns
returns c = search (rules, decimal_text)
