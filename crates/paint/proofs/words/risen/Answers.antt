-- `words::risen` meets its contract.
use Rattle.std.proofs.Common.{◌-◌, ◌*◌, ◌≤◌, arith}
use Rattle.paint.proofs.Pairs.{rising_is, part_small}
use Rattle.paint.proofs.words.risen.Goals as goal

small : (c : goal.Start) → (c.args.cj - c.args.ci) * c.args.t ≤ (c.args.cj - c.args.ci) * 65535
small c = part_small (c.args.cj - c.args.ci) c.args.t (omega arith)

pub overflow_mul-p : goal.overflow_mul-p
overflow_mul-p c =
    omega (arith, small c)

pub overflow_cast-result-2 : goal.overflow_cast-result-2
overflow_cast-result-2 c =
    omega (arith, small c)

pub overflow_add-result : goal.overflow_add-result
overflow_add-result c =
    omega (arith, small c)

pub overflow_add-result-2 : goal.overflow_add-result-2
overflow_add-result-2 c =
    omega (arith, small c)

pub returns : goal.returns
returns c =
    rising_is c.args.ci c.args.cj c.args.t c.requires (omega arith)
