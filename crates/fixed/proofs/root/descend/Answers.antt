-- `root::descend` meets its contract: the root is below high.
use Rattle.std.proofs.Common.{arith}
use Rattle.fixed.proofs.Roots.{from_above}
use Rattle.fixed.proofs.root.descend.Goals as goal

pub returns-then-from-n : goal.returns-then-from-n
returns-then-from-n c =
    from_above c.args.n c.args.from c.requires.0 (omega arith)
