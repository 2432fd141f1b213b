-- `words::mixed` meets its contract.
use Rattle.std.proofs.Common.{arith}
use Rattle.paint.proofs.Pairs.{mixed_byte}
use Rattle.paint.proofs.words.mixed.Goals as goal

pub returns-then-ci-cj : goal.returns-then-ci-cj
returns-then-ci-cj c =
    let a = c.args in
    (c.risen.ensures, omega (arith, c.risen.ensures, mixed_byte a.t a.ci a.cj (omega arith) (omega arith) (omega arith)))

pub returns : goal.returns
returns c =
    let a = c.args in
    (c.fallen.ensures, omega (arith, c.fallen.ensures, mixed_byte a.t a.ci a.cj (omega arith) (omega arith) (omega arith)))
