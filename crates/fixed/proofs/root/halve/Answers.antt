-- `root::halve` meets its contract: the root lies from below to before above.
use Rattle.std.proofs.Common.{◌≡◌, ◌+◌, arith}
use Rattle.fixed.proofs.Roots.{only_root}
use Rattle.fixed.proofs.root.halve.Goals as goal

pub returns : goal.returns
returns c =
    let l = c.loop-below in
    let e : l.above ≡ l.below + 1 = omega arith in
    only_root c.args.n l.below l.invariant.0 (rw e at l.invariant.1)
