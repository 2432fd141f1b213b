-- `segments::reciprocal` meets its contract.
use Rattle.std.proofs.Common.{refl, arith}
use Rattle.paint.specs.Segments.{reciprocal_of}
use Rattle.paint.proofs.Lines.{reciprocal_small}
use Rattle.paint.proofs.segments.reciprocal.Goals as goal

pub overflow_add-result : goal.overflow_add-result
unfolding reciprocal_of
overflow_add-result c =
    omega (arith, reciprocal_small c.args.d)

pub returns : goal.returns
unfolding reciprocal_of
returns c =
    refl
