-- `words::fallen` meets its contract.
use Rattle.std.proofs.Common.{ℕ, ◌-◌, ◌*◌, ◌/◌, ◌≤◌, ap, ◌∙◌, arith}
use Rattle.paint.proofs.Pairs.{falling_is, part_small}
use Rattle.paint.proofs.words.fallen.Goals as goal

small : (c : goal.Start) → (c.args.ci - c.args.cj) * c.args.t ≤ (c.args.ci - c.args.cj) * 65535
small c = part_small (c.args.ci - c.args.cj) c.args.t (omega arith)

pub overflow_mul-p : goal.overflow_mul-p
overflow_mul-p c =
    omega (arith, small c)

pub overflow_cast-result-2 : goal.overflow_cast-result-2
overflow_cast-result-2 c =
    omega (arith, small c)

pub overflow_sub-result : goal.overflow_sub-result
overflow_sub-result c =
    omega (arith, small c)

pub overflow_sub-result-2 : goal.overflow_sub-result-2
overflow_sub-result-2 c =
    omega (arith, small c.before, c.saturating_sub.ensures)

pub returns : goal.returns
returns c =
    let a = c.args in
    ap (λ (r : ℕ). a.ci - (a.ci - a.cj) * a.t / 65536 - r / 32768) c.saturating_sub.ensures
    ∙ falling_is a.ci a.cj a.t c.requires (omega arith)
