-- `plain::scissors::is_within` meets its contract. Assumes nothing.
use native.Mathlib.Omega.{arith}
use mir.Syntax.{w32, w64}
use Rattle.fixed.proofs.Means.{Num, param, keep, need, add, of_nat}
use Rattle.plain.proofs.scissors.is_within.Goals as goal

abbrev start : goal.Start → Num
start c = param w32 c.args.start c.ranges.start

abbrev size : goal.Start → Num
size c = param w32 c.args.size c.ranges.size

abbrev end : goal.Start → Num
end c = add (keep w64 (start c) tt) (keep w64 (size c) tt)

abbrev column : goal.Start → Num
column c = of_nat w64 c.args.x 2147483647 (omega (arith, c.requires)) tt

pub overflow_cast-end : goal.overflow_cast-end
overflow_cast-end c =
    need (start c) tt

pub overflow_cast-end-2 : goal.overflow_cast-end-2
overflow_cast-end-2 c =
    need (size c) tt

pub overflow_add-end : goal.overflow_add-end
overflow_add-end c =
    need (end c) tt

pub overflow_cast-start : goal.overflow_cast-start
overflow_cast-start c =
    need (start c) tt

pub returns-then-start-x : goal.returns-then-start-x
returns-then-start-x c =
    rw ((keep w64 (end c.before) tt).same, (column c.before).same, rw ((keep w64 (start c.before) tt).same, (column c.before).same) at c.if-start-x.true)

pub returns-else-start-x : goal.returns-else-start-x
returns-else-start-x c =
    rw (rw ((keep w64 (start c.before) tt).same, (column c.before).same) at c.if-start-x.false)
