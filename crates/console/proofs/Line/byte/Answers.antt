use borrow.Author.Tests.{lt-ltb, le-ltb}
use Rattle.console.specs.Lines.{with_byte}
use Rattle.console.proofs.Line.byte.Goals as goal

pub returns-then-at-ge160 : goal.returns-then-at-ge160
unfolding with_byte
returns-then-at-ge160 c =
    rw (le-ltb _ _ c.if-at-ge160.true)

pub returns : goal.returns
unfolding with_byte
returns c =
    rw (lt-ltb _ _ c.if-at-ge160.false)
