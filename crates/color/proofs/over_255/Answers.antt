-- `color::over_255` meets its contract: the sums fit 16 bits, and the shifts are the quotient. Assumes nothing.
use Rattle.std.proofs.Common.{arith}
use Rattle.color.proofs.Quotient.{by_255}
use Rattle.color.proofs.over_255.Goals as goal

pub returns : goal.returns
returns c =
    omega (arith, by_255 c.args.n (omega arith))
