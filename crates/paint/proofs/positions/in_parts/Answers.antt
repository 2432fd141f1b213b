-- `positions::in_parts` meets its contract: no step overflows, by the sizes of the whole and of the fraction.
use Rattle.std.proofs.Common.{◌≡◌, ℕ, ◌+◌, ◌*◌, ◌/◌, pos, ◌+ℤ◌, ◌*ℤ◌, nat_abs, ap, ◌∙◌, ap₂, arith, w64}
use Rattle.fixed.proofs.Means.{Num, need, keep, lit, add, mul, of_nat}
use Rattle.paint.specs.Buffers.{line_parts, in_parts}
use Rattle.paint.proofs.Sizes.{sized}
use Rattle.paint.proofs.positions.in_parts.Goals as goal
use Rattle.paint.proofs.positions.in_parts.Tie as tie
use Rattle.paint.proofs.positions.in_parts.Lts as lts
use Rattle.paint.proofs.positions.in_parts.Reads as reads

abbrev rest : goal.After-struct_told-2-1 → Num
rest c = sized 137438953472 c.args.q.rest tt (omega (arith, c.requires.0.below, c.requires.1))

abbrev d : goal.After-struct_told-2-1 → Num
d c = sized 137438953472 c.args.d tt (omega (arith, c.requires.1))

abbrev wholes : lts.Start tie.the-claims reads.Pre reads.Post → Num
wholes c = mul (sized 131072 c.args.q.whole tt (omega (arith, c.requires.2))) (lit line_parts)

fraction-is : (c : goal.After-fraction) → c.fraction.result ≡ nat_abs c.args.q.rest * line_parts / nat_abs c.args.d
fraction-is c =
    c.fraction.ensures.0
    ∙ ap₂ (λ (r d : ℕ). r * line_parts / d) (ap nat_abs (rest c.before).same) (ap nat_abs (d c.before).same)

abbrev sum : goal.After-fraction → Num
sum c = add (keep w64 (wholes c.before.before.before.before.before) tt) (of_nat w64 (c.fraction.result + 1) line_parts (omega (arith, c.fraction.ensures.1)) tt)

pub overflow_mul-result : goal.overflow_mul-result
overflow_mul-result c =
    need (wholes c.before.before.before) tt

pub overflow_cast-q : goal.overflow_cast-q
overflow_cast-q c =
    rw ((rest c).same, c.requires.0.rest) (tt, omega (arith, c.requires.0.below, c.requires.1))

pub overflow_cast-d : goal.overflow_cast-d
overflow_cast-d c =
    rw ((d c).same, c.requires.0.divisor) (tt, omega (arith, c.requires.1))

pub fraction-requires : goal.fraction-requires
fraction-requires c =
    rw ((rest c).same, (d c).same) (c.requires.0.below, c.requires.1)

pub overflow_add-result : goal.overflow_add-result
overflow_add-result c =
    record { fits = omega (arith, c.fraction.ensures.1) }

pub overflow_cast-result : goal.overflow_cast-result
overflow_cast-result c =
    record { sfits = omega (arith, c.fraction.ensures.1) }

pub overflow_add-result-2 : goal.overflow_add-result-2
overflow_add-result-2 c =
    need (sum c) tt

pub returns : goal.returns
unfolding in_parts
returns c =
    (keep w64 (sum c) tt).same ∙ ap (λ (k : ℕ). c.args.q.whole *ℤ pos line_parts +ℤ pos (k + 1)) (fraction-is c)
