-- `words::mixed_pair` meets its contract.
use Rattle.std.proofs.Common.{ℕ, ◌+◌, ◌*◌, ap₂, arith}
use Rattle.paint.specs.Segments.{mix_pair}
use Rattle.paint.proofs.words.mixed_pair.Goals as goal

pub mixed-requires : goal.mixed-requires
mixed-requires c =
    tt

pub mixed-requires-2 : goal.mixed-requires-2
mixed-requires-2 c =
    tt

pub overflow_mul-result : goal.overflow_mul-result
overflow_mul-result c =
    omega (arith, c.mixed-2.ensures.1)

pub overflow_add-result : goal.overflow_add-result
overflow_add-result c =
    omega (arith, c.mixed.ensures.1, c.mixed-2.ensures.1)

pub returns : goal.returns
unfolding mix_pair
returns c =
    ap₂ (λ (a b : ℕ). a + b * 256) c.mixed.ensures.0 c.mixed-2.ensures.0
