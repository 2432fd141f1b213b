-- `path::plain::taken_by` meets its contract.
use native.Mathlib.Omega.{arith}
use Rattle.path.proofs.Untraced.{plain_below}
use Rattle.path.proofs.plain.taken_by.Goals as goal

pub taken-used-requires : goal.taken-used-requires
taken-used-requires c =
    let l = c.loop-i in
    plain_below c.args.segments.now c.args.n c.requires.n_value l.i (omega arith)
