-- `color::premultiply` meets its contract: the product of two bytes is small. Assumes nothing.
use Rattle.std.proofs.Common.{◌*◌, ◌≤◌, arith}
use Rattle.color.proofs.Alpha.{product_small}
use Rattle.color.proofs.premultiply.Goals as goal

small : (c : goal.Start) → c.args.c * c.args.a ≤ 65025
small c = product_small c.args.c c.args.a (omega arith) (omega arith)

pub overflow_mul-c : goal.overflow_mul-c
overflow_mul-c c =
    omega (arith, small c)

pub overflow_add-c : goal.overflow_add-c
overflow_add-c c =
    omega (arith, small c)

pub over_255-requires : goal.over_255-requires
over_255-requires c =
    omega (arith, small c)

pub returns : goal.returns
returns c =
    c.over_255.ensures
