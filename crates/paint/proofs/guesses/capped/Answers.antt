-- `guesses::capped` meets its contract: what is below something is a number.
use Rattle.paint.proofs.Floating.{below_number}
use Rattle.paint.proofs.guesses.capped.Goals as goal

pub returns-then-x-most : goal.returns-then-x-most
returns-then-x-most c =
    let a = c.args in below_number a.x a.most c.if-x-most.true

pub returns-else-x-most : goal.returns-else-x-most
returns-else-x-most c =
    c.requires
