-- `plain::pixels::LaidDraw::mask_byte` meets its contract. Assumes nothing.
use borrow.Author.Rules.{rules}
use Rattle.plain.proofs.pixels.LaidDraw.mask_byte.Goals as goal

pub bounds-self-i : goal.bounds-self-i
bounds-self-i c =
    let h = c.requires c.if-self.true in search rules

pub returns-then-self : goal.returns-then-self
returns-then-self c =
    rw c.if-self.true

pub returns : goal.returns
returns c =
    rw c.if-self.false
