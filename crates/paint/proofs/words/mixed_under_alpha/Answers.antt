-- `words::mixed_under_alpha` meets its contract.
use Rattle.std.proofs.Common.{ℕ, ◌+◌, ◌*◌, ap, ◌∙◌, arith}
use Rattle.paint.proofs.Pairs.{one_alpha}
use Rattle.paint.proofs.words.mixed_under_alpha.Goals as goal

pub mixed-requires : goal.mixed-requires
mixed-requires c =
    tt

pub overflow_add-result : goal.overflow_add-result
overflow_add-result c =
    omega (arith, c.mixed.ensures.1)

pub returns : goal.returns
returns c =
    let a = c.args in
    ap (λ (r : ℕ). r + a.a * 256) c.mixed.ensures.0 ∙ one_alpha a.t a.ci a.cj a.a (omega arith)
