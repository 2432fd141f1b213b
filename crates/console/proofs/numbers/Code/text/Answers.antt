use Rattle.std.proofs.Common.{rules}
use Rattle.console.proofs.Texts.{hex_text}
use Rattle.console.proofs.numbers.Code.text.Goals as goal

pub returns : goal.returns
returns c = search (rules, hex_text 4)
