-- `fixed::root::newton` meets its contract.
use Rattle.std.proofs.Common.{arith}
use Rattle.fixed.proofs.Roots.{root_small, newton_above}
use Rattle.fixed.proofs.root.newton.Goals as goal

pub returns-then-guess-eq0 : goal.returns-then-guess-eq0
returns-then-guess-eq0 c =
    let h = root_small c.args.n c.requires in omega arith

pub returns : goal.returns
returns c =
    let h = root_small c.args.n c.requires in
    let k = newton_above c.args.n c.args.guess (omega arith) in
    grind arith
